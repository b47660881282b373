use Rattle.unit_plan.proofs.Imports.{AreFound, is_spare, usable_units}
use Rattle.unit_plan.proofs.spare.spare_runs.Given as goal

abbrev pub invariant-loop-u : goal.invariant-loop-u
invariant-loop-u l = AreFound (is_spare l.map l.system l.metadata l.data_) (usable_units l.map) l.first l.u l.runs
