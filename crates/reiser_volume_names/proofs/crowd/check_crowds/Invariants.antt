use Rattle.reiser_volume_names.proofs.Imports.{take, contains, same_key, CrowdCounts, link_list}
use Rattle.reiser_volume_names.proofs.crowd.check_crowds.Given as goal

abbrev pub invariant-loop-naming : goal.invariant-loop-naming
invariant-loop-naming l = CrowdCounts l.sums (link_list (contains same_key l.named) (take l.naming-index l.objects.namings.items))
