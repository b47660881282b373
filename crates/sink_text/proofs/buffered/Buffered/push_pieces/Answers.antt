use Rattle.sink_text.proofs.Imports.{piece_text}
use Rattle.sink_text.proofs.Pushing.{pushes_stopped, stopped_at_item}
use Rattle.sink_text.proofs.buffered.Buffered.push_pieces.Goals as goal

pub returns-in_err-push_piece-clause-taken : goal.returns-in_err-push_piece-clause-taken
returns-in_err-push_piece-clause-taken g c = λ tells.
    pushes_stopped _ _ _ _ _ _ c.from_residual.ensures.0
    (stopped_at_item piece_text c.args.pieces.now c.loop-piece.piece-index _ _ _ _ _ _ c.loop-piece-test.true (c.loop-piece.invariant.taken tells) (c.in_err-push_piece.ensures.taken tells))
