-- Which blocks of a disk are in use by what is read of its Btrfs volume.
use Rattle.std.specs.Prelude.{◌≡◌, ◌⊎◌, ◌<◌, ℕ, ◌+◌, ◌/◌, ◌==◌, if◌then◌else◌, List, [], ◌∷◌, ◌++◌, Option, Some, None, Contains}
use Rattle.std.specs.Option.{option_and_then}
use Rattle.btr_node.specs.btrfs_format.declared.key.TheConstants.{EXTENT_DATA}
use Rattle.btr_node.specs.btrfs_format.declared.object.TheConstants.{FS_TREE}
use Rattle.reiser_bitmap.specs.outside.History.{Image}
use Rattle.reiser_bitmap.specs.refusals.declared.answer.BtrAnswer.{BtrAnswer}
use Rattle.reiser_bitmap.specs.refusals.declared.answer.BtrAnswer.TheVariants.{Refused, Fault, Memory}
use Rattle.reiser_bitmap.specs.refusals.declared.refusal.BtrRefusal.{BtrRefusal}
use Rattle.reiser_bitmap.specs.refusals.declared.refusal.BtrRefusal.TheVariants.{LogPending}
use Rattle.reiser_bitmap.specs.vol_block.Volume.{IsReserved}
use Rattle.btr_reader_contents.specs.Extents.{is_hole}
use Rattle.btr_node.specs.btr_keys.FileExtent.{ContentValue, Inline, Regular, Prealloc, file_extent_of}
use Rattle.btr_node.specs.btr_keys.declared.file_extent.DiskRange.{DiskRange}
use Rattle.btr_reader.specs.Image.{items_at, pointer_in, saved_location, tree_number}
use Rattle.btr_reader.specs.Opening.{chunk_tree, root_tree, tree_of}
use Rattle.btr_reader.specs.Parts.{IsBtrfsRefusal, SavedImage, log_tree, own_map, own_super}
use Rattle.btr_reader.specs.Roots.{root_item}
use Rattle.btr_reader.specs.Rows.{roots_on}
use Rattle.btr_reader.specs.btr_super.declared.superblock.Super.{Super}
use Rattle.btr_reader_walk.specs.Events.{TreeItem, nodes_in}
use Rattle.btr_reader_walk.specs.Map.{place, second_place}
use Rattle.btr_reader_walk.specs.Walks.{found, met}
use Rattle.btr_reader_walk.specs.declared.map.MapRange.{MapRange}
use Rattle.btr_reader_walk.specs.declared.tree.NodePointer.{NodePointer}
use Rattle.btr_reader_walk.specs.declared.tree.Tree.{Tree}
use Rattle.btr_reader.specs.Apart.{boot_map}

-- ---- what lies in a block

-- The address has this place, by either copy of its range.
abbrev pub HasPlace : List MapRange → ℕ → ℕ → Type 0
HasPlace ranges address at = (place ranges address ≡ Some at) ⊎ (second_place ranges address ≡ Some at)

-- One of so many bytes from an address on lies in block b of the device, by either copy. A byte whose address is in no chunk lies
-- nowhere.
pub record LieIn (ranges : List MapRange) (address count b : ℕ) : Type 0 where
  pub k : ℕ
  pub within : k < count
  pub at : ℕ
  pub place_is : HasPlace ranges (address + k) at
  pub block : at / 4096 ≡ b

-- One of these nodes does, each of so many bytes.
pub record HoldsNode (nodes : List NodePointer) (ranges : List MapRange) (nodesize b : ℕ) : Type 0 where
  pub node : NodePointer
  pub among : Contains nodes node
  pub lies : LieIn ranges node.address nodesize b

-- Where the disk extent of a file extent lies, in any encoding: written, or only laid out. A hole and an inline extent have none.
abbrev pub range_unless_hole : DiskRange → Option DiskRange
range_unless_hole r = if is_hole r then None else Some r

abbrev pub content_range : ContentValue → Option DiskRange
content_range (Inline bytes) = None
content_range (Regular r) = range_unless_hole r
content_range (Prealloc r) = range_unless_hole r

-- the same of an item: one that is no file extent, or is off the grammar, has none
abbrev pub item_range : TreeItem → Option DiskRange
item_range i = if i.key.kind == EXTENT_DATA then option_and_then (λ e. content_range e.content) (file_extent_of i.body) else None

-- A file extent of these items does: written, compressed or only laid out, all of the disk extent that it names, whatever part of it the
-- file has.
pub record HoldsExtent (items : List TreeItem) (ranges : List MapRange) (b : ℕ) : Type 0 where
  pub item : TreeItem
  pub among : Contains items item
  pub range : DiskRange
  pub range_is : item_range item ≡ Some range
  pub lies : LieIn ranges range.disk_bytenr range.disk_num_bytes b

-- a node of the tree does
abbrev pub HoldsNodeOf : Image → List MapRange → Tree → ℕ → Type 0
HoldsNodeOf disk ranges t b = HoldsNode (nodes_in (met disk ranges t)) ranges t.form.nodesize b

-- a node or a file extent of the file tree does
abbrev pub HoldsPartOf : Image → List MapRange → Tree → ℕ → Type 0
HoldsPartOf disk ranges t b = HoldsNodeOf disk ranges t b ⊎ HoldsExtent (found disk ranges t) ranges b

-- ---- the trees that are read

-- the tree of a pointer, if there is one
abbrev pub tree_if : Super → ℕ → Option NodePointer → List Tree
tree_if s number None = []
tree_if s number (Some p) = tree_of s number p ∷ []

-- the tree with this number, if there is a number and the root tree has its root item
abbrev pub numbered : Image → Super → List MapRange → Option ℕ → List Tree
numbered disk s ranges None = []
numbered disk s ranges (Some number) = tree_if s number (pointer_in (root_item number (roots_on disk s ranges)))

-- the tree that the file tree with this root names as that of the saved image
abbrev pub named_by : Image → Super → List MapRange → Option NodePointer → List Tree
named_by disk s ranges None = []
named_by disk s ranges (Some p) = numbered disk s ranges (option_and_then tree_number (saved_location (items_at disk s ranges FS_TREE p)))

abbrev pub file_pointer : Image → Super → List MapRange → Option NodePointer
file_pointer disk s ranges = pointer_in (root_item FS_TREE (roots_on disk s ranges))

-- The file tree, and the tree of the saved image; those of the two that are there.
abbrev pub file_trees : Image → Super → List MapRange → List Tree
file_trees disk s ranges = tree_if s FS_TREE (file_pointer disk s ranges) ++ named_by disk s ranges (file_pointer disk s ranges)

-- ---- blocks in use

-- Block b holds a part of the file tree or of the tree of the saved image.
pub record IsInFiles (disk : Image) (b : ℕ) : Type 0 where
  pub tree : Tree
  pub among : Contains (file_trees disk (own_super disk) (own_map disk)) tree
  pub holds : HoldsPartOf disk (own_map disk) tree b

-- by this map it holds a node of the chunk tree or of the root tree
abbrev pub IsInRoots : Image → Super → List MapRange → ℕ → Type 0
IsInRoots disk s ranges b = HoldsNodeOf disk ranges (chunk_tree s) b ⊎ HoldsNodeOf disk ranges (root_tree s) b

-- Block b of the disk holds a node of the chunk tree, the root tree, the file tree or the tree of the saved image, or a file extent of
-- one of the last two. The chunk tree lies where the chunks in the superblock say.
pub data IsInUse (disk : Image) (b : ℕ) : Type 0 where
  chunk_node : HoldsNodeOf disk (boot_map (own_super disk)) (chunk_tree (own_super disk)) b → IsInUse disk b
  root_node : HoldsNodeOf disk (own_map disk) (root_tree (own_super disk)) b → IsInUse disk b
  file_part : IsInFiles disk b → IsInUse disk b

-- None of the blocks that are reserved on a volume of so many blocks is in use. With 0 blocks these are the first MiB and the places of
-- copies of the superblock.
abbrev pub IsReservedFree : Image → ℕ → Type 0
IsReservedFree disk blocks = (b : ℕ) → IsReserved b blocks → ¬ IsInUse disk b

-- a block that is reserved and has the property, or there is none
abbrev pub TellsReserved : (ℕ → Type 0) → ℕ → Option ℕ → Type 0
TellsReserved P blocks None = (b : ℕ) → IsReserved b blocks → ¬ P b
TellsReserved P blocks (Some b) = IsReserved b blocks × P b

-- ---- what may be answered

-- A log tree comes first; then what is wrong on the way to the saved image.
pub data IsWayRefusal (disk : Image) (r : BtrRefusal) : Type 0 where
  has_log : (address : ℕ) → log_tree disk ≡ Some address → r ≡ LogPending address → IsWayRefusal disk r
  unreadable : log_tree disk ≡ None → IsBtrfsRefusal disk SavedImage r → IsWayRefusal disk r

abbrev pub RefusesUse : Image → BtrAnswer → Type 0
RefusesUse disk (Refused r) = IsWayRefusal disk r
RefusesUse disk Fault = Unit {0}
RefusesUse disk Memory = Unit {0}
