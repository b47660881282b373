use Rattle.reiser_volume_names.proofs.Imports.{take, filter, same_key, IsOnly}
use Rattle.reiser_volume_names.proofs.private.only_entry.Given as goal

abbrev pub invariant-loop-naming : goal.invariant-loop-naming
invariant-loop-naming l = IsOnly (filter (λ n. same_key n.dir l.dir) (take l.naming-index l.objects.namings.items)) l.only
