-- Which ReiserFS volumes are accepted, and how each other one is refused: the groups of rules one after the other.
use Rattle.std.specs.Prelude.{◌≡◌, ℕ, List, Bool, [], length, Some, Contains}
use Rattle.reiser_super.specs.reiserfs_format.declared.block.TheConstants.{SUPER_BLOCK}
use Rattle.reiser_bitmap.specs.outside.History.{Image, block_at}
use Rattle.reiser_bitmap.specs.refusals.declared.refusal.VolumeRefusal.{VolumeRefusal}
use Rattle.reiser_bitmap.specs.refusals.declared.refusal.VolumeRefusal.TheVariants.{JournalPending}
use Rattle.fs_rows.specs.Rows.{WholeRow}
use Rattle.reiser_bitmap.specs.Layout.{bitmap_of}
use Rattle.reiser_bitmap.specs.Bits.{has}
use Rattle.reiser_bitmap.specs.System.{system_blocks, NamesFreeBlock}
use Rattle.reiser_super.specs.declared.superblock.Super.{Super}
use Rattle.reiser_super.specs.Superblock.{superblock_fields}
use Rattle.reiser_super.specs.Rules.{superblock_refusal, IsCleanSuper}
use Rattle.reiser_super.specs.Journal.{pending_transactions, IsClean}
use Rattle.reiser_volume_objects.specs.reiser_walk.declared.reiser_tree.ReiserTree.{ReiserTree}
use Rattle.reiser_volume_objects.specs.reiser_walk.Items.{ReiserItem}
use Rattle.reiser_volume_objects.specs.reiser_walk.Rules.{tree_damages}
use Rattle.reiser_volume_objects.specs.reiser_walk.Tree.{items_of_tree}
use Rattle.reiser_volume_objects.specs.Rules.{AreObjects, IsObjectsRefusal}
use Rattle.reiser_volume_names.specs.Names.{AreNames, IsNamesRefusal}
use Rattle.reiser_volume.specs.Rows.{AreReiserRows}
use Rattle.std.specs.Prelude.{true}

abbrev pub superblock : Image → Super
superblock image = superblock_fields (block_at image SUPER_BLOCK)

-- the used blocks, as the bitmap marks them
abbrev pub used_of : Image → List Bool
used_of image = bitmap_of (superblock image).blocks image

abbrev pub reiser_tree_of : Super → ReiserTree
reiser_tree_of s = record { root = s.root; height = s.height; journal_first = s.journal_first; journal_size = s.journal_size }

-- the items of the volume's tree, in order
abbrev pub volume_items : Image → List ReiserItem
volume_items image = items_of_tree (reiser_tree_of (superblock image)) image (superblock image).blocks

-- the bitmap marks the volume's own blocks
abbrev pub MarksSystem : Image → Type 0
MarksSystem image =
    let s = superblock image in
    (b : ℕ) → Contains (system_blocks s.blocks s.journal_first s.journal_size) b → has (used_of image) b ≡ true

abbrev pub IsSoundTree : Image → Type 0
IsSoundTree image = tree_damages (reiser_tree_of (superblock image)) image (used_of image) ≡ []

-- what comes before the tree keeps its rules: superblock, journal and bitmap
pub record IsFrontAccepted (image : Image) : Type 0 where
  pub clean : IsClean image
  pub system : MarksSystem image

-- An accepted volume: each rule holds.
pub record IsAccepted (image : Image) : Type 0 where
  pub clean : IsClean image
  pub system : MarksSystem image
  pub tree : IsSoundTree image
  pub objects : AreObjects (volume_items image)
  pub names : AreNames (volume_items image)

-- A refusal of superblock, journal or bitmap is that of the first of the three of which a rule fails.
pub data IsFrontRefusal (image : Image) (r : VolumeRefusal) : Type 0 where
  superblock_rule : superblock_refusal (block_at image SUPER_BLOCK) (length image) ≡ Some r → IsFrontRefusal image r
  journal_rule : (trans : ℕ) → IsCleanSuper (block_at image SUPER_BLOCK) (length image) → Contains (pending_transactions (superblock image) image) trans → r ≡ JournalPending trans → IsFrontRefusal image r
  bitmap_rule : IsClean image → NamesFreeBlock (used_of image) (superblock image).journal_first (superblock image).journal_size r → IsFrontRefusal image r

-- A refusal is that of the first group of which a rule fails.
pub data IsRefusal (image : Image) (r : VolumeRefusal) : Type 0 where
  front_rule : IsFrontRefusal image r → IsRefusal image r
  tree_rule : IsClean image → MarksSystem image → Contains (tree_damages (reiser_tree_of (superblock image)) image (used_of image)) r → IsRefusal image r
  objects_rule : IsClean image → MarksSystem image → IsSoundTree image → IsObjectsRefusal (superblock image).root (volume_items image) r → IsRefusal image r
  names_rule : IsClean image → MarksSystem image → IsSoundTree image → AreObjects (volume_items image) → IsNamesRefusal (volume_items image) r → IsRefusal image r

-- the rows of a volume
abbrev pub AreRowsOf : Image → List WholeRow → Type 0
AreRowsOf image rows = AreReiserRows image (superblock image).flags (volume_items image) rows
