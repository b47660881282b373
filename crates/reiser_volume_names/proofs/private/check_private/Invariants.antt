use Rattle.reiser_volume_names.proofs.Imports.{◌≡◌, ◌<◌, ℕ, List, false, get_or, ReiserItem, Naming, is_followed, HasNoted, HasNoAttributes}
use Rattle.reiser_volume_names.proofs.private.check_private.Given as goal

abbrev pub invariant-loop-naming : goal.invariant-loop-naming
invariant-loop-naming l =
    (items : List ReiserItem) → HasNoted l.objects items → (k : ℕ) (d : Naming) → k < l.naming-index → is_followed (get_or l.objects.namings.items k d) ≡ false → HasNoAttributes items (get_or l.objects.namings.items k d).target
