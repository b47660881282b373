use Rattle.unit_plan.proofs.Imports.{◌≡◌, take, node_places}
use Rattle.unit_plan.proofs.places.slots_of.Given as goal

abbrev pub invariant-loop-i : goal.invariant-loop-i
invariant-loop-i l = l.slots ≡ node_places l.nodesize (take l.i l.units)
