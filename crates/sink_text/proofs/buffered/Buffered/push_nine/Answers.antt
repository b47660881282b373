use Rattle.sink_text.proofs.Imports.{decimal}
use Rattle.sink_text.proofs.Pushing.{pushes_stopped, stopped_here}
use Rattle.sink_text.proofs.buffered.Buffered.push_nine.Goals as goal

pub returns-in_err-push-clause-taken : goal.returns-in_err-push-clause-taken
returns-in_err-push-clause-taken g c = λ tells.
    pushes_stopped _ _ _ _ _ _ c.from_residual.ensures.0
    (stopped_here _ _ _ (decimal c.args.number) _ (rw (c.point_and_zeros.ensures, c.as_bytes-digits.ensures.value, c.format.ensures.text) at (c.in_err-push.ensures.taken tells)))
