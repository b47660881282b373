-- What the names of an object in a directory take, by the places of both.
use Rattle.std.specs.Prelude.{◌≡◌, ℕ, ◌==◌, Bool, ◌&&◌, List, slice_get, Some}
use Rattle.indexmap.specs.IndexMap.{IndexMap}
use Rattle.reiser_volume.specs.reiser_volume_names.Names.{reference_size}
use Rattle.reiser_volume.specs.reiser_volume_names.Tally.{tally, capped}
use Rattle.reiser_volume_objects.specs.declared.key.ObjectKey.{ObjectKey}
use Rattle.reiser_volume_objects.specs.declared.naming.Naming.{Naming}
use Rattle.file_items.specs.declared.link_index.RefKey.{RefKey}

abbrev pub same_names : RefKey → RefKey → Bool
same_names a b = (a.dir == b.dir) && (a.object == b.object)

-- of the objects at two places, what an inode ref of these links takes
abbrev pub AreSizes : {S : Type 0} → List ObjectKey → IndexMap RefKey ℕ S → List Naming → Type 0
AreSizes keys sizes links =
    (q : RefKey) (dir object : ObjectKey) → slice_get keys q.dir ≡ Some dir → slice_get keys q.object ≡ Some object
    → tally same_names sizes q ≡ capped (reference_size links dir object)
