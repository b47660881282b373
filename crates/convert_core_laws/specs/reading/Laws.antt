-- What holds of every converted volume as it is opened.
use Rattle.std.specs.Prelude.{◌≡◌, ◌⊎◌, ℕ, List, map, Some, None, Ok}
use Rattle.btr_reader.specs.btrfs_format.declared.object.TheConstants.{FS_TREE}
use Rattle.reiser_volume.specs.outside.History.{Image}
use Rattle.reiser_volume.specs.refusals.declared.refusal.BtrRefusal.{BtrRefusal}
use Rattle.reiser_volume.specs.vol_block.declared.ids.Ids.{Ids}
use Rattle.btr_reader.specs.btr_reader_names.Roots.{has_root}
use Rattle.btr_reader.specs.btr_reader_names.Rules.{BreaksNames}
use Rattle.btr_reader.specs.Opening.{IsBtrfsOpened, boot_chunks, chunk_map, super_on, tree_of}
use Rattle.btr_reader.specs.Parts.{IsBtrfsRefusal, IsReadable, Opening, Superblock, Tree, log_tree, own_map, own_super}
use Rattle.btr_reader.specs.Rows.{BreaksExtents, roots_on}
use Rattle.btr_reader.specs.btr_reader_walk.Walks.{found}
use Rattle.convert_core.specs.convert_steps.Making.{Making, new_ids}
use Rattle.convert_core.specs.unit_plan.declared.tree.NewTree.TheVariants.{Files}
use Rattle.convert_core.specs.convert_steps.Standing.{TreeRoots}
use Rattle.convert_core.specs.space_items.declared.node.TreeNode.{TreeNode}
use Rattle.convert_core.specs.btr_tree_writer.Trees.{pointer_to_root}
use Rattle.convert_core.specs.convert_options.declared.options.Options.{Options}
use Rattle.convert_core_laws.specs.reading.Opened.{AreRangesFor, GivesItsOwn, IsNewVolume, ReadsTrees, boot_part, chunk_at, map_for, super_for}

-- what holds of each converted volume
abbrev pub OfEach : (Image → Image → Making → TreeRoots → List TreeNode → Type 0) → Type 0
OfEach P =
    (o : Options) (ids : Ids) (now : ℕ) (image other : Image) (m : Making) (r : TreeRoots) (nodes : List TreeNode)
    → IsNewVolume o ids now image other m r nodes → P image other m r nodes

-- Its superblock is read, with the fields that were written, and names no log tree.
pub record ReadsSuperblock (other : Image) (m : Making) (r : TreeRoots) (nodes : List TreeNode) : Type 0 where
  pub reads : super_on other ≡ Ok (super_for m r nodes)
  pub log : log_tree other ≡ None

abbrev pub SuperblockReads : Type 0
SuperblockReads = OfEach (λ image other m r nodes. ReadsSuperblock other m r nodes)

-- The map of addresses is that of its chunks. Each address of a node and of a piece of data means itself.
pub record MapsChunks (other : Image) (m : Making) (r : TreeRoots) (nodes : List TreeNode) : Type 0 where
  pub boot : boot_chunks (super_for m r nodes) ≡ Some (map (chunk_at (new_ids m)) (boot_part m.chunks))
  pub map_is : chunk_map other (super_for m r nodes) ≡ map_for m.chunks
  pub ranges : AreRangesFor m.chunks (map_for m.chunks)
  pub own : GivesItsOwn m (map_for m.chunks)

abbrev pub ChunksMap : Type 0
ChunksMap = OfEach (λ image other m r nodes. MapsChunks other m r nodes)

-- It is opened without a refusal, and each of its trees is read with its items.
pub record OpensWithTrees (image other : Image) (m : Making) (r : TreeRoots) (nodes : List TreeNode) : Type 0 where
  pub opened : IsBtrfsOpened other (super_for m r nodes) (map_for m.chunks)
  pub trees : ReadsTrees image other (super_for m r nodes) (map_for m.chunks) m r nodes

abbrev pub TreesRead : Type 0
TreesRead = OfEach OpensWithTrees

-- what breaks the rules of names in the file tree, or an extent of a named file or symlink that breaks a rule
abbrev pub BreaksTree : Image → Making → TreeRoots → BtrRefusal → Type 0
BreaksTree other m r refusal =
    BreaksNames (has_root (roots_on other (own_super other) (own_map other))) (found other (own_map other) (tree_of (own_super other) FS_TREE (pointer_to_root (r.tree Files)))) (r.tree Files).address refusal
    ⊎ BreaksExtents (own_map other) (found other (own_map other) (tree_of (own_super other) FS_TREE (pointer_to_root (r.tree Files)))) refusal

-- Its superblock, chunks and root tree are readable, and its trees are read with their items by its own superblock and map. So
-- the file tree is refused for its names or for its extents alone.
pub record IsReadableWithTrees (image other : Image) (m : Making) (r : TreeRoots) (nodes : List TreeNode) : Type 0 where
  pub superblock : IsReadable other Superblock
  pub opening : IsReadable other Opening
  pub log : log_tree other ≡ None
  pub super_is : own_super other ≡ super_for m r nodes
  pub map_is : own_map other ≡ map_for m.chunks
  pub ranges : AreRangesFor m.chunks (own_map other)
  pub own : GivesItsOwn m (own_map other)
  pub trees : ReadsTrees image other (own_super other) (own_map other) m r nodes
  pub rest : (refusal : BtrRefusal) → IsBtrfsRefusal other Tree refusal → BreaksTree other m r refusal

abbrev pub ConvertedIsReadable : Type 0
ConvertedIsReadable = OfEach IsReadableWithTrees
