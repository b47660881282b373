-- The table of the named objects.
use Rattle.std.specs.Prelude.{◌≡◌, List, None, is_some, if◌then◌else◌}
use Rattle.std.specs.List.{list_any}
use Rattle.indexmap.specs.IndexMap.{IndexMap, get}
use Rattle.reiser_volume_objects.specs.reiser_walk.Items.{ReiserItem}
use Rattle.reiser_volume_objects.specs.declared.key.ObjectKey.{ObjectKey}
use Rattle.reiser_volume_objects.specs.declared.stat.ObjectStat.{ObjectStat}
use Rattle.reiser_volume_objects.specs.Items.{stat_of_object}
use Rattle.reiser_volume_objects.specs.Keys.{same_key}
use Rattle.reiser_volume_objects.specs.Reach.{Keys}

-- the test of the objects in it
abbrev pub is_known : {S : Type 0} → IndexMap ObjectKey ObjectStat S → Keys
is_known table key = is_some (get same_key table key)

-- the table has exactly the stat data of these objects
abbrev pub HasStats : {S : Type 0} → List ReiserItem → IndexMap ObjectKey ObjectStat S → List ObjectKey → Type 0
HasStats items table seen = (key : ObjectKey) → get same_key table key ≡ (if list_any (same_key key) seen then stat_of_object items key else None)
