use Rattle.sink_text.proofs.Prefix.{takes_part}
use Rattle.sink_text.proofs.Pushing.{takes_of_flush, takes_of_stopped}
use Rattle.sink_text.proofs.text_part.write_pieces.Goals as goal

pub returns-in_err-push_pieces-clause-taken : goal.returns-in_err-push_pieces-clause-taken
returns-in_err-push_pieces-clause-taken g c = λ tells.
    takes_part _ _ _ _ c.from_residual.ensures.0 (takes_of_stopped _ _ _ (rw c.new-text.ensures at (c.in_err-push_pieces.ensures.taken tells)))

pub returns-clause-taken : goal.returns-clause-taken
returns-clause-taken g c = λ tells.
    takes_of_flush _ _ _ _ _ _ (rw c.new-text.ensures at (c.in_ok-push_pieces.ensures.taken tells)) (c.flush.ensures.taken tells)
