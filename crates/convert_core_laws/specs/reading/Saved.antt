-- The saved image of a converted volume.
use Rattle.std.specs.Prelude.{◌≡◌, ◌<◌, ℕ, ◌^◌, true, false, List, [], map, Some, None}
use Rattle.btr_reader.specs.btrfs_format.declared.object.TheConstants.{FS_TREE}
use Rattle.reiser_volume.specs.outside.History.{Image, block_at}
use Rattle.reiser_volume.specs.vol_block.declared.ids.Ids.{Ids}
use Rattle.btr_reader.specs.btr_reader_names.Roots.{has_root}
use Rattle.btr_reader.specs.btr_reader_names.Rules.{KeepsNames}
use Rattle.btr_reader.specs.Image.{ImageFile, image_in, image_place, image_refusals_in, root_refusals, saved_image}
use Rattle.btr_reader.specs.Opening.{tree_of}
use Rattle.btr_reader.specs.Parts.{IsReadable, SavedImage, own_map, own_super}
use Rattle.btr_reader.specs.Rows.{roots_on}
use Rattle.btr_reader.specs.btr_reader_walk.Events.{TreeItem}
use Rattle.btr_reader.specs.btr_reader_walk.Tree.{bare_item}
use Rattle.btr_reader.specs.btr_reader_walk.Walks.{found}
use Rattle.btr_reader.specs.btr_reader_walk.declared.map.MapRange.{MapRange}
use Rattle.convert_core.specs.convert_steps.Making.{Making}
use Rattle.convert_core.specs.unit_plan.declared.tree.NewTree.TheVariants.{Files}
use Rattle.convert_core.specs.convert_steps.Standing.{TreeRoots, image_tree_items}
use Rattle.reiser_volume.specs.reiser_bitmap.Bits.{has}
use Rattle.reiser_volume.specs.Volume.{used_of}
use Rattle.convert_core.specs.space_items.declared.node.TreeNode.{TreeNode}
use Rattle.convert_core.specs.btr_tree_writer.Trees.{pointer_to_root}
use Rattle.convert_core.specs.convert_options.declared.options.Options.{Options}
use Rattle.convert_core_laws.specs.reading.Opened.{IsNewVolume, map_for}

-- A file is the image of an old volume of so many blocks: each used block has a place that holds its bytes, and any other is a
-- hole.
pub record IsImageOf (image other : Image) (ranges : List MapRange) (blocks : ℕ) (f : ImageFile) : Type 0 where
  pub blocks_are : f.blocks ≡ blocks
  pub used_ : (b : ℕ) → has (used_of image) b ≡ true → (p : ℕ) × (image_place ranges f b ≡ Some p) × (block_at other p ≡ block_at image b)
  pub holes : (b : ℕ) → has (used_of image) b ≡ false → image_place ranges f b ≡ None

-- A tree with these items has the image, and nothing is wrong on the way to it from the tree's root on.
pub record HasSavedImage (image other : Image) (ranges : List MapRange) (blocks : ℕ) (items : List TreeItem) : Type 0 where
  pub file : ImageFile
  pub found_ : image_in items ≡ Some file
  pub names : root_refusals items ≡ []
  pub extents : image_refusals_in ranges items ≡ []
  pub is : IsImageOf image other ranges blocks file

-- so does the tree of the saved image of a volume that was converted at a time, in any leaves
abbrev pub SavedImageReads : Type 0
SavedImageReads =
    (o : Options) (ids : Ids) (now : ℕ) (image other : Image) (m : Making) (r : TreeRoots) (nodes : List TreeNode) (items : List TreeItem)
    → IsNewVolume o ids now image other m r nodes → now < 2 ^ 63 → map bare_item items ≡ image_tree_items m
    → HasSavedImage image other (map_for m.chunks) m.volume.sup.blocks items

-- the rules of names are kept in the file tree
abbrev pub KeepsFileNames : Image → TreeRoots → Type 0
KeepsFileNames other r =
    KeepsNames (has_root (roots_on other (own_super other) (own_map other))) (found other (own_map other) (tree_of (own_super other) FS_TREE (pointer_to_root (r.tree Files)))) (r.tree Files).address

-- The saved image is readable, and it is that of the old volume.
pub record ReadsSavedImage (image other : Image) (blocks : ℕ) : Type 0 where
  pub readable : IsReadable other SavedImage
  pub file : ImageFile
  pub saved : saved_image other (own_super other) (own_map other) ≡ Some file
  pub is : IsImageOf image other (own_map other) blocks file

-- So it is where the file tree keeps the rules of names.
abbrev pub SavedImageIsReadable : Type 0
SavedImageIsReadable =
    (o : Options) (ids : Ids) (now : ℕ) (image other : Image) (m : Making) (r : TreeRoots) (nodes : List TreeNode)
    → IsNewVolume o ids now image other m r nodes → now < 2 ^ 63 → KeepsFileNames other r
    → ReadsSavedImage image other m.volume.sup.blocks
