use Rattle.sink_text.proofs.Pushing.{pushes_stopped, pushes_written, stopped_flush}
use Rattle.sink_text.proofs.buffered.Buffered.push.Goals as goal

pub returns-in_err-flush-clause-taken : goal.returns-in_err-flush-clause-taken
returns-in_err-flush-clause-taken g c = λ tells.
    pushes_stopped _ _ _ _ _ _ c.from_residual.ensures.0 (stopped_flush _ _ c.args.bytes.now _ (c.in_err-flush.ensures.taken tells))

pub returns-clause-taken : goal.returns-clause-taken
returns-clause-taken g c = λ tells.
    pushes_written _ _ _ _ _ _ _ (c.in_ok-flush.ensures.taken tells) c.in_ok-flush.ensures.empty (c.write.ensures.taken tells)
