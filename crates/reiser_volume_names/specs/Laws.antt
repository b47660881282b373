-- Laws of the definitions.
use Rattle.std.specs.Prelude.{◌≡◌, List}
use Rattle.reiser_volume_objects.specs.refusals.declared.refusal.VolumeRefusal.{VolumeRefusal}
use Rattle.reiser_volume_objects.specs.reiser_walk.Items.{ReiserItem}
use Rattle.reiser_volume_objects.specs.declared.naming.Naming.{Naming}
use Rattle.reiser_volume_names.specs.Links.{AreLinks}
use Rattle.reiser_volume_names.specs.Names.{AreNames, IsNamesRefusal}

-- there is one list of visible entries, and one of links
abbrev pub LinksAreOne : Type 0
LinksAreOne = (items : List ReiserItem) (visible links also_visible also_links : List Naming) → AreLinks items visible links → AreLinks items also_visible also_links → (visible ≡ also_visible) × (links ≡ also_links)

-- where something is refused of the names, not all their rules are kept
abbrev pub NamesRefusalsBreakRules : Type 0
NamesRefusalsBreakRules = (items : List ReiserItem) (r : VolumeRefusal) → IsNamesRefusal items r → ¬ AreNames items
