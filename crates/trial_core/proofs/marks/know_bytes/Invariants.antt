use Rattle.trial_core.proofs.Imports.{◌<◌, ℕ, slice_index}
use Rattle.trial_core.proofs.marks.know_bytes.Given as goal

abbrev pub invariant-loop-i : goal.invariant-loop-i
invariant-loop-i l = (k : ℕ) → k < l.i → slice_index l.fn.bytes k < 256
