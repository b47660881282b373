use Rattle.std.specs.Prelude.{Option, Some, None, IfSome}
use Rattle.reiser_volume_tests.proofs.making.run_on.Goals as goal

anything : {A : Type 0} (o : Option A) → IfSome o (λ x. Unit {0})
anything None = tt
anything (Some x) = tt

-- a disk in memory may be asked to open any path
pub run-status-requires-clause-wanted : goal.run-status-requires-clause-wanted
run-status-requires-clause-wanted c = anything _
