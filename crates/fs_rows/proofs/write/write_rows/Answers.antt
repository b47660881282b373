use Rattle.fs_rows.proofs.Imports.{takes_of_flush, takes_of_stopped}
use Rattle.sink_text.proofs.Prefix.{takes_part}
use Rattle.fs_rows.proofs.write.write_rows.Goals as goal

pub returns-in_err-push_rows-clause-taken : goal.returns-in_err-push_rows-clause-taken
returns-in_err-push_rows-clause-taken g c = λ tells.
    takes_part _ _ _ _ c.from_residual.ensures.0 (takes_of_stopped _ _ _ (rw c.new-text.ensures at (c.in_err-push_rows.ensures.taken tells)))

pub returns-clause-taken : goal.returns-clause-taken
returns-clause-taken g c = λ tells.
    takes_of_flush _ _ _ _ _ _ (rw c.new-text.ensures at (c.in_ok-push_rows.ensures.taken tells)) (c.flush.ensures.taken tells)
