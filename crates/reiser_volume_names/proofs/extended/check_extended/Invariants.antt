use Rattle.reiser_volume_names.proofs.Imports.{take, contains, same_key, Refers, link_list}
use Rattle.reiser_volume_names.proofs.extended.check_extended.Given as goal

abbrev pub invariant-loop-naming : goal.invariant-loop-naming
invariant-loop-naming l = Refers l.named.keys l.sizes l.sums (link_list (contains same_key l.named) (take l.naming-index l.objects.namings.items))
