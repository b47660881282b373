-- What an opened volume has of the blocks that it was read from.
use Rattle.std.specs.Prelude.{◌≡◌, List, Bool, Contains}
use Rattle.std.specs.List.Sorted.{IsStrictlySortedBy}
use Rattle.indexmap.specs.IndexMap.{keys, get}
use Rattle.reiser_bitmap.specs.outside.History.{Image}
use Rattle.reiser_super.specs.declared.superblock.Super.{Super}
use Rattle.reiser_super.specs.Journal.{IsClean}
use Rattle.reiser_volume_objects.specs.declared.key.ObjectKey.{ObjectKey}
use Rattle.reiser_volume_objects.specs.declared.naming.Naming.{Naming}
use Rattle.reiser_volume_objects.specs.Items.{stat_of_object}
use Rattle.reiser_volume_objects.specs.Keys.{same_key}
use Rattle.reiser_volume_objects.specs.Table.{HasNoted}
use Rattle.reiser_volume.specs.declared.volume.Volume.{Volume}
use Rattle.reiser_volume_names.specs.Known.{is_known}
use Rattle.reiser_volume_names.specs.Passes.{link_list}
use Rattle.reiser_volume_names.specs.Links.{AreLinks, AreNamedKeys, object_cmp}
use Rattle.reiser_volume.specs.Volume.{superblock, used_of, volume_items, MarksSystem, IsSoundTree}

-- superblock, journal, bitmap and tree are in order, and these are the superblock's fields and the used blocks
pub record IsFoundSound (image : Image) (s : Super) (used : List Bool) : Type 0 where
  pub fields : s ≡ superblock image
  pub clean : IsClean image
  pub system : MarksSystem image
  pub bits : used ≡ used_of image
  pub tree : IsSoundTree image

-- the links, by the table of the named objects
abbrev pub links_in : Volume → List Naming
links_in volume = link_list (is_known volume.named) volume.objects.namings.items

-- The superblock, the used blocks, what the items say, the named objects with their stat data, which ascend by the two
-- numbers of their keys, and the links.
pub record IsOpened (volume : Volume) (image : Image) : Type 0 where
  pub sup : volume.sup ≡ superblock image
  pub bitmap : volume.bitmap ≡ used_of image
  pub noted : HasNoted volume.objects (volume_items image)
  pub are_keys : AreNamedKeys (volume_items image) (keys volume.named)
  pub ascends : IsStrictlySortedBy object_cmp (keys volume.named)
  pub stats : (key : ObjectKey) → Contains (keys volume.named) key → get same_key volume.named key ≡ stat_of_object (volume_items image) key
  pub visible : List Naming
  pub are_links : AreLinks (volume_items image) visible (links_in volume)
