use Rattle.reiser_volume_objects.proofs.Imports.{ℕ, ◌<◌, List, get_or, contains, ReiserItem, ObjectKey, same_key, AreSeen, IsObject, HasNoted}
use Rattle.reiser_volume_objects.proofs.check.check_named.Given as goal

abbrev pub invariant-loop-key : goal.invariant-loop-key
invariant-loop-key l =
    (items : List ReiserItem) → HasNoted l.objects items → AreSeen items (contains same_key l.named) → (k : ℕ) (d : ObjectKey) → k < l.key-index → IsObject items (get_or l.key-items k d)
