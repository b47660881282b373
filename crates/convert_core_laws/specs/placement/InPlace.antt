-- The data of files stays where it is.
use Rattle.std.specs.Prelude.{◌≡◌, ◌≢◌, ◌<◌, ℕ, ◌+◌, ◌-◌, ◌*◌, true, if◌then◌else◌, List, [], ◌∷◌, Option, Some, None}
use Rattle.btr_reader.specs.btrfs_format.declared.object.TheConstants.{FS_TREE}
use Rattle.reiser_volume.specs.outside.History.{Image, block_at}
use Rattle.reiser_volume.specs.vol_block.Volume.{IsReserved}
use Rattle.convert_core_laws.specs.going_back.Lying.{OfConverted}
use Rattle.btr_reader.specs.btr_reader_contents.Extents.{covers, extents_of, is_hole}
use Rattle.btr_reader.specs.btr_keys.FileExtent.{ContentValue, FileExtentValue, Inline, Prealloc, Regular, file_extent_of}
use Rattle.btr_reader.specs.btr_reader_names.Links.{LeadsToTarget as LeadsOn, inode}
use Rattle.btr_reader.specs.Image.{items_at}
use Rattle.btr_reader.specs.Parts.{own_map, own_super}
use Rattle.btr_reader.specs.Rows.{top}
use Rattle.btr_reader.specs.btr_reader_walk.Events.{TreeItem}
use Rattle.btr_reader.specs.btr_reader_walk.Map.{place}
use Rattle.btr_reader.specs.btr_reader_walk.declared.map.MapRange.{MapRange}
use Rattle.btr_reader.specs.btr_reader_walk.declared.tree.NodePointer.{NodePointer}
use Rattle.convert_core.specs.convert_steps.Switch.{IsMirrorOf}
use Rattle.reiser_volume.specs.fs_rows.Rows.{NameList}
use Rattle.reiser_volume.specs.reiser_bitmap.Bits.{has}
use Rattle.reiser_volume.specs.reiser_volume_names.Links.{AreLinks}
use Rattle.reiser_volume.specs.reiser_volume_objects.Keys.{root}
use Rattle.reiser_volume.specs.reiser_volume_objects.Names.{IsNamed}
use Rattle.reiser_volume.specs.reiser_volume_objects.declared.key.ObjectKey.{ObjectKey}
use Rattle.reiser_volume.specs.reiser_volume_objects.declared.naming.Naming.{Naming}
use Rattle.reiser_volume.specs.Owners.{Owns}
use Rattle.reiser_volume.specs.Rows.{LeadsToObject}
use Rattle.reiser_volume.specs.Volume.{superblock, used_of, volume_items}
use Rattle.volume_state.specs.Using.{file_pointer}

-- ---- where the bytes of a file lie

-- the place on the device of byte k of an extent, in bytes: an inline one, a hole and one that was only laid out have none
abbrev pub content_place : List MapRange → ContentValue → ℕ → Option ℕ
content_place ranges (Inline bytes) k = None
content_place ranges (Regular r) k = if is_hole r then None else place ranges (r.disk_bytenr + r.offset + k)
content_place ranges (Prealloc r) k = None

-- the place of byte k of a file by an extent from byte `offset` of it on, if that covers it, else another
abbrev pub place_from : List MapRange → ℕ → Option FileExtentValue → ℕ → Option ℕ → Option ℕ
place_from ranges offset None k other = other
place_from ranges offset (Some e) k other = if covers offset e.content k then content_place ranges e.content (k - offset) else other

-- The place on the device of byte k of a file with these extents, in bytes.
abbrev pub byte_place : List MapRange → List TreeItem → ℕ → Option ℕ
byte_place ranges [] k = None
byte_place ranges (i ∷ extents) k = place_from ranges i.key.offset (file_extent_of i.body) k (byte_place ranges extents k)

-- ---- what stays

-- The blocks of a regular file, but for reserved ones, are in place: where its items name block p for its block k, the extents give for
-- each byte of file block k the same byte of block p.
abbrev pub AreBlocksInPlace : Image → ObjectKey → List MapRange → List TreeItem → Type 0
AreBlocksInPlace image key ranges extents =
    (k p j : ℕ) → Owns image key k p → ¬ IsReserved p (superblock image).blocks → j < 4096 → byte_place ranges extents (4096 * k + j) ≡ Some (4096 * p + j)

-- One inode of the tree has all paths of the object, and by its extents the object's blocks are in place.
pub record StaysInPlace (image : Image) (ranges : List MapRange) (items : List TreeItem) (key : ObjectKey) : Type 0 where
  pub ino : ℕ
  pub paths : (visible links : List Naming) (path : NameList) → AreLinks (volume_items image) visible links → LeadsToObject links root path key → LeadsOn items top path (inode ino)
  pub blocks : AreBlocksInPlace image key ranges (extents_of items ino)

-- Each block that the old bitmap marks used holds what it held, but for block 16 and the places of the Btrfs superblock's copies. Each named
-- object has an inode in the file tree by which its data is in place.
pub record IsInPlace (image other : Image) : Type 0 where
  pub used : (b : ℕ) → has (used_of image) b ≡ true → b ≢ 16 → ¬ IsMirrorOf (superblock image).blocks b → block_at other b ≡ block_at image b
  pub at : NodePointer
  pub has_root : file_pointer other (own_super other) (own_map other) ≡ Some at
  pub files : (key : ObjectKey) → IsNamed (volume_items image) key → StaysInPlace image (own_map other) (items_at other (own_super other) (own_map other) FS_TREE at) key

-- So it is on every volume that was converted.
abbrev pub ConvertedDataStays : Type 0
ConvertedDataStays = OfConverted IsInPlace
