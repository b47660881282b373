use Rattle.sink_text.proofs.Imports.{hex_pair}
use Rattle.sink_text.proofs.Pushing.{pushes_stopped, stopped_at_item}
use Rattle.sink_text.proofs.buffered.Buffered.push_hex.Goals as goal

pub returns-in_err-push-clause-taken : goal.returns-in_err-push-clause-taken
returns-in_err-push-clause-taken g c = λ tells.
    pushes_stopped _ _ _ _ _ _ c.from_residual.ensures.0
    (stopped_at_item hex_pair c.args.bytes.now c.loop-byte.byte-index 0 _ _ _ _ _ c.loop-byte-test.true (c.loop-byte.invariant.taken tells) (rw c.hex_pair-pair.ensures at (c.in_err-push.ensures.taken tells)))
