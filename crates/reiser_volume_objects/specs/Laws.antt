-- Laws of the definitions.
use Rattle.std.specs.Prelude.{ℕ, List}
use Rattle.reiser_bitmap.specs.refusals.declared.refusal.VolumeRefusal.{VolumeRefusal}
use Rattle.reiser_walk.specs.Items.{ReiserItem}
use Rattle.reiser_volume_objects.specs.Rules.{AreObjects, IsObjectsRefusal}

-- where something is refused of the objects, not all the rules are kept
abbrev pub RefusalsBreakRules : Type 0
RefusalsBreakRules = (root_block : ℕ) (items : List ReiserItem) (r : VolumeRefusal) → IsObjectsRefusal root_block items r → ¬ AreObjects items
