use Rattle.btr_reader.proofs.Imports.{[], sym, subst, err_from_is_err_and, chunks_refusals, IsAmong}
use Rattle.btr_reader.proofs.Adding.{next_refused}
use Rattle.btr_reader.proofs.chunk.add_chunks.Goals as goal

pub returns-in_err-add_chunk-clause-err : goal.returns-in_err-add_chunk-clause-err
returns-in_err-add_chunk-clause-err c =
    let err = err_from_is_err_and c.from_residual.result c.from_residual.ensures.1 in
    rw err.1 (subst (IsAmong (chunks_refusals c.args.device [] c.args.chunks.now)) (sym err.2)
    (next_refused c.args.device c.loop-c.ranges.items c.args.chunks.now c.loop-c.c-index _ _ c.in_err-add_chunk.field-0.0 c.loop-c-test.true c.loop-c.invariant.rest c.in_err-add_chunk.ensures.err))
