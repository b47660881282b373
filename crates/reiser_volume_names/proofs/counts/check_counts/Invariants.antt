use Rattle.reiser_volume_names.proofs.Imports.{List, take, contains, ReiserItem, same_key, HasNoted, CountsNames, link_list}
use Rattle.reiser_volume_names.proofs.counts.check_counts.Given as goal

abbrev pub invariant-loop-naming : goal.invariant-loop-naming
invariant-loop-naming l = (items : List ReiserItem) → HasNoted l.objects items → CountsNames items l.counts (link_list (contains same_key l.named) (take l.naming-index l.objects.namings.items))
