use Rattle.reiser_volume_names.proofs.Imports.{◌≡◌, ◌<◌, ℕ, false, get_or, contains, Naming, same_key}
use Rattle.reiser_volume_names.proofs.private.check_empty.Given as goal

abbrev pub invariant-loop-naming : goal.invariant-loop-naming
invariant-loop-naming l = (k : ℕ) (d : Naming) → k < l.naming-index → contains same_key l.inside (get_or l.objects.namings.items k d).dir ≡ false
