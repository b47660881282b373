-- Which file a block of a volume belongs to.
use Rattle.std.specs.Prelude.{◌≡◌, ◌≢◌, ◌≤◌, ◌<◌, ℕ, ◌+◌, ◌-◌, ◌*◌, true, List, Some, Contains}
use Rattle.reiser_bitmap.specs.outside.History.{Image}
use Rattle.fs_rows.specs.declared.row.Kind.TheVariants.{File}
use Rattle.reiser_bitmap.specs.Bits.{has}
use Rattle.reiser_bitmap.specs.System.{system_blocks}
use Rattle.reiser_volume_objects.specs.reiser_walk.Tree.{Visit, visits}
use Rattle.reiser_volume_files.specs.declared.map.FileRun.{FileRun}
use Rattle.reiser_volume_files.specs.declared.map.RunFrom.TheVariants.{Disk}
use Rattle.reiser_volume_files.specs.Bytes.{named_block}
use Rattle.reiser_volume_files.specs.Runs.{file_runs}
use Rattle.reiser_volume_objects.specs.declared.key.ObjectKey.{ObjectKey}
use Rattle.reiser_volume_objects.specs.declared.stat.ObjectStat.{ObjectStat}
use Rattle.reiser_volume_objects.specs.Items.{stat_of_object}
use Rattle.reiser_volume_objects.specs.Keys.{items_of}
use Rattle.reiser_volume_objects.specs.Kinds.{kind_of_mode}
use Rattle.reiser_volume_objects.specs.Names.{IsNamed}
use Rattle.reiser_volume.specs.Made.{stat_at}
use Rattle.reiser_volume.specs.Volume.{superblock, used_of, reiser_tree_of, volume_items, IsAccepted}

-- The block holds file block k of a named regular file: the file's items name it for k, and k begins below the file's size.
pub record Owns (image : Image) (key : ObjectKey) (k block : ℕ) : Type 0 where
  pub named : IsNamed (volume_items image) key
  pub stat : ObjectStat
  pub has_stat : stat_of_object (volume_items image) key ≡ Some stat
  pub file : kind_of_mode stat.fields.mode ≡ Some File
  pub below : 4096 * k < stat.fields.size
  pub points : named_block (items_of key (volume_items image)) k ≡ block
  pub some : block ≢ 0

-- a used block that is neither a node of the tree nor one that the volume keeps for itself
pub record HoldsData (image : Image) (block : ℕ) : Type 0 where
  pub within : block < (superblock image).blocks
  pub used : has (used_of image) block ≡ true
  pub no_node : (v : Visit) → Contains (visits (reiser_tree_of (superblock image)) image (superblock image).blocks) v → v.to.block ≢ block
  pub no_system : ¬ Contains (system_blocks (superblock image).blocks (superblock image).journal_first (superblock image).journal_size) block

-- A block that has an owner holds data, and it has no other one.
pub record OwnersAreOne : Type 0 where
  pub holds : (image : Image) → IsAccepted image → (key : ObjectKey) (k block : ℕ) → Owns image key k block → HoldsData image block
  pub one : (image : Image) → IsAccepted image → (key other : ObjectKey) (k j block : ℕ) → Owns image key k block → Owns image other j block → (key ≡ other) × (k ≡ j)

-- The runs of a map that lie on the disk are exactly the blocks that the object owns, each with its file block.
pub record TellsOwned (image : Image) (key : ObjectKey) (map : List FileRun) : Type 0 where
  pub each : (r : FileRun) (first i : ℕ) → Contains map r → r.from ≡ Disk first → i < r.count → Owns image key (r.at + i) (first + i)
  pub whole : (k block : ℕ) → Owns image key k block → (r : FileRun) × (first : ℕ) × Contains map r × (r.from ≡ Disk first) × (r.at ≤ k) × (k < r.at + r.count) × (block ≡ first + (k - r.at))

-- So the map of each named object does, and that of one that is no regular file has none.
abbrev pub MapsTellOwned : Type 0
MapsTellOwned = (image : Image) → IsAccepted image → (key : ObjectKey) → IsNamed (volume_items image) key → TellsOwned image key (file_runs (items_of key (volume_items image)) (stat_at (volume_items image) key).fields.size)
