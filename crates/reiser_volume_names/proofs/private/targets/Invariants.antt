use Rattle.reiser_volume_names.proofs.Imports.{List, take, filter, contains, ReiserItem, same_key, HasNoted, AreTargets}
use Rattle.reiser_volume_names.proofs.private.targets.Given as goal

abbrev pub invariant-loop-naming : goal.invariant-loop-naming
invariant-loop-naming l = (items : List ReiserItem) → HasNoted l.objects items → AreTargets items (filter (λ n. same_key n.dir l.dir) (take l.naming-index l.objects.namings.items)) (contains same_key l.inside)
