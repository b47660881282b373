use Rattle.reiser_volume_objects.proofs.Imports.{◌≡◌, take, steps}
use Rattle.reiser_volume_objects.proofs.reach.steps_of.Given as goal

abbrev pub invariant-loop-naming : goal.invariant-loop-naming
invariant-loop-naming l = l.links.items ≡ steps (take l.naming-index l.objects.namings.items)
