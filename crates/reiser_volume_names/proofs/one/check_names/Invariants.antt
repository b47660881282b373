use Rattle.reiser_volume_names.proofs.Imports.{ℕ, ◌<◌, get_or, contains, Naming, same_key, IsGoodName}
use Rattle.reiser_volume_names.proofs.one.check_names.Given as goal

abbrev pub invariant-loop-naming : goal.invariant-loop-naming
invariant-loop-naming l = (k : ℕ) (d : Naming) → k < l.naming-index → IsGoodName (contains same_key l.named) (get_or l.objects.namings.items k d)
