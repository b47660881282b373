use Rattle.reiser_volume_names.proofs.Imports.{take, filter, contains, same_key, HasSeenLinks}
use Rattle.reiser_volume_names.proofs.once.check_once.Given as goal

abbrev pub invariant-loop-naming : goal.invariant-loop-naming
invariant-loop-naming l = HasSeenLinks l.names (filter (λ n. contains same_key l.named n.dir) (take l.naming-index l.objects.namings.items))
