use Rattle.reiser_volume_names.proofs.Imports.{ℕ, ◌<◌, List, get_or, ReiserItem, ObjectKey, HasNoted, HasForms}
use Rattle.reiser_volume_names.proofs.each.check_each.Given as goal

abbrev pub invariant-loop-key : goal.invariant-loop-key
invariant-loop-key l = (items : List ReiserItem) → HasNoted l.objects items → (k : ℕ) (d : ObjectKey) → k < l.key-index → HasForms items (get_or l.key-items k d)
