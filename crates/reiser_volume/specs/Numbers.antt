-- The inodes of the named objects on the converted volume.
use Rattle.std.specs.Prelude.{◌≡◌, ◌<◌, ℕ, ◌^◌, not, List, ◌∷◌, filter, length, slice_get, Some}
use Rattle.std.specs.List.Sorted.{IsStrictlySortedBy}
use Rattle.reiser_volume_names.specs.Links.{object_cmp}
use Rattle.reiser_volume_objects.specs.declared.key.ObjectKey.{ObjectKey}
use Rattle.reiser_volume_objects.specs.Keys.{root, same_key}

-- the named objects by their inodes: the root, and the others by their keys
abbrev pub by_inode : List ObjectKey → List ObjectKey
by_inode keys = root ∷ filter (λ key. not (same_key key root)) keys

-- Keys that ascend, with the root at a place.
pub record AreNumbered (place : ℕ) (keys : List ObjectKey) : Type 0 where
  pub ascends : IsStrictlySortedBy object_cmp keys
  pub has_root : slice_get keys place ≡ Some root
  pub small : length keys < 2 ^ 63
