use Rattle.btr_check_fields.proofs.Imports.{refl, sym, not_from_Decides, All-more, Contains-get_or, IsChunkOn}
use Rattle.btr_check_fields.proofs.Deciding.{decides_chunk}
use Rattle.btr_check_fields.proofs.chunks.invalid_chunk.Goals as goal

pub loop-c-preserved : goal.loop-c-preserved
loop-c-preserved c =
    All-more (IsChunkOn c.args.sup.now) c.args.chunks.now c.loop-c.c-index _ c.loop-c-test.true c.loop-c.invariant ((decides_chunk c.args.sup.now _).0 (sym c.if-not-is_chunk.ensures))

pub returns-then-not-is_chunk : goal.returns-then-not-is_chunk
returns-then-not-is_chunk c =
    (_, Contains-get_or c.args.chunks.now c.loop-c.c-index _ c.loop-c-test.true, refl, not_from_Decides _ (decides_chunk c.args.sup.now _) (sym c.if-not-is_chunk.ensures))
