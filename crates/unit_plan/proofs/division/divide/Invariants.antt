use Rattle.unit_plan.proofs.Imports.{AreBegun, role_in}
use Rattle.unit_plan.proofs.division.divide.Given as goal

abbrev pub invariant-loop-u : goal.invariant-loop-u
invariant-loop-u l = AreBegun (role_in l.roles) l.usable l.first l.u l.chunks
