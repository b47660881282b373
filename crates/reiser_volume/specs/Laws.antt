-- Laws of the definitions.
use Rattle.std.specs.Prelude.{◌≡◌, ◌≢◌, ◌≤◌, ◌<◌, ◌↔◌, ℕ, ◌*◌, true, List, length, map, take, Some}
use Rattle.std.specs.Int.{bit_at}
use Rattle.reiser_bitmap.specs.outside.History.{Image, block_at}
use Rattle.reiser_bitmap.specs.refusals.declared.refusal.VolumeRefusal.{VolumeRefusal}
use Rattle.reiser_super.specs.reiserfs_format.declared.block.TheConstants.{SUPER_BLOCK}
use Rattle.reiser_bitmap.specs.Bits.{has}
use Rattle.super_turn.specs.PutBack.{put_back}
use Rattle.fs_rows.specs.Rows.{WholeRow}
use Rattle.fs_rows.specs.declared.row.Kind.{Kind}
use Rattle.reiser_volume_contents.specs.Laws.{SameUsed}
use Rattle.reiser_super.specs.Superblock.{attrs_cleared_bit}
use Rattle.reiser_volume_objects.specs.reiser_walk.Items.{ReiserItem}
use Rattle.reiser_volume_files.specs.Bytes.{named_block}
use Rattle.reiser_volume_objects.specs.declared.key.ObjectKey.{ObjectKey}
use Rattle.reiser_volume_objects.specs.declared.stat.ObjectStat.{ObjectStat}
use Rattle.reiser_volume_objects.specs.Items.{stat_of_object}
use Rattle.reiser_volume_objects.specs.Keys.{items_of}
use Rattle.fs_rows.specs.Kinds.{has_bytes}
use Rattle.reiser_volume_objects.specs.Kinds.{kind_of_mode}
use Rattle.reiser_volume_objects.specs.Names.{IsNamed}
use Rattle.reiser_volume.specs.Rows.{AreReiserRows}
use Rattle.reiser_volume.specs.Volume.{superblock, used_of, volume_items, AreRowsOf, IsAccepted, IsRefusal, IsFrontAccepted, IsFrontRefusal}

-- where something is refused of a volume, it is not accepted
abbrev pub RefusalsBreakRules : Type 0
RefusalsBreakRules = (image : Image) (r : VolumeRefusal) → IsRefusal image r → ¬ IsAccepted image

-- The same of superblock, journal and bitmap alone: an accepted volume's are accepted.
pub record FrontsAreJudged : Type 0 where
  pub broken : (image : Image) (r : VolumeRefusal) → IsFrontRefusal image r → ¬ IsFrontAccepted image
  pub accepted : (image : Image) → IsAccepted image → IsFrontAccepted image

-- the other image holds the same volume, and is accepted too
pub record IsSameVolume (image other : Image) : Type 0 where
  pub accepted : IsAccepted other
  pub fields : superblock other ≡ superblock image
  pub used : used_of other ≡ used_of image
  pub items : volume_items other ≡ volume_items image
  pub rows : (rows : List WholeRow) → AreRowsOf image rows ↔ AreRowsOf other rows

-- The used blocks decide an accepted volume, where the other image has room for it.
abbrev pub UsedBlocksDecide : Type 0
UsedBlocksDecide = (image other : Image) → IsAccepted image → SameUsed (used_of image) image other → (superblock image).blocks ≤ length other → IsSameVolume image other

-- All used blocks but block 16 are the same in both, and the first 128 bytes of that one, where all lies that is read of a superblock.
pub record SameButSuper (image other : Image) : Type 0 where
  pub front : take 128 (block_at other SUPER_BLOCK) ≡ take 128 (block_at image SUPER_BLOCK)
  pub used : (b : ℕ) → b ≢ 16 → has (used_of image) b ≡ true → block_at other b ≡ block_at image b

-- They decide it too.
abbrev pub FrontOfSuperDecides : Type 0
FrontOfSuperDecides = (image other : Image) → IsAccepted image → SameButSuper image other → (superblock image).blocks ≤ length other → IsSameVolume image other

-- So a volume of which block 16 is half turned is the one that it is when it is put back.
pub record PutBackIsSame : Type 0 where
  pub before : (image : Image) → IsAccepted (put_back image) → IsSameVolume (put_back image) image
  pub after : (image : Image) → IsAccepted image → IsSameVolume image (put_back image)

-- the rows of an accepted volume are one list
abbrev pub RowsAreOne : Type 0
RowsAreOne = (image : Image) → IsAccepted image → (rows others : List WholeRow) → AreRowsOf image rows → AreRowsOf image others → rows ≡ others

-- the items without the leaves that they lie in: their keys, what else their heads say, and their bodies
abbrev pub unplaced : List ReiserItem → List ReiserItem
unplaced items = map (λ i. record { leaf = 0; head = i.head; body = i.body }) items

-- The other image has the same in each block that the items of a named file or symlink name for a file block below its size.
abbrev pub SameFileBlocks : Image → Image → List ReiserItem → Type 0
SameFileBlocks image other items =
    (key : ObjectKey) (stat : ObjectStat) (kind : Kind) (k : ℕ) → IsNamed items key → stat_of_object items key ≡ Some stat → kind_of_mode stat.fields.mode ≡ Some kind → has_bytes kind ≡ true
    → 4096 * k < stat.fields.size → named_block (items_of key items) k ≢ 0 → block_at other (named_block (items_of key items) k) ≡ block_at image (named_block (items_of key items) k)

-- All that rows read is the same of both: the superblock's flag for attributes, the items up to where they lie, and the files' blocks.
pub record ReadsSame (image other : Image) (flags others : ℕ) (items moved : List ReiserItem) : Type 0 where
  pub flagged : bit_at others attrs_cleared_bit ≡ bit_at flags attrs_cleared_bit
  pub same : unplaced moved ≡ unplaced items
  pub blocks : SameFileBlocks image other items

-- The rows depend on nothing else: not on where the leaves of the items lie.
abbrev pub ItemsDecideRows : Type 0
ItemsDecideRows =
    (image other : Image) (flags others : ℕ) (items moved : List ReiserItem) → ReadsSame image other flags others items moved
    → (rows : List WholeRow) → AreReiserRows image flags items rows ↔ AreReiserRows other others moved rows
