-- Nodes that are written, and what they read as.
use Rattle.std.specs.Prelude.{◌≡◌, ◌≤◌, ◌<◌, ℕ, ◌+◌, ◌^◌, Bool, List, length, All, Some, slice_index_or}
use Rattle.reiser_volume.specs.outside.History.{Image, block_at}
use Rattle.reiser_make.specs.Inner.{inner_bytes, node_place, leaf_at, level_nodes, root_level}
use Rattle.reiser_make.specs.Inner as inner
use Rattle.reiser_make.specs.Items.{body_bytes}
use Rattle.reiser_make.specs.Leaf.{leaves, leaf_bytes, bytes_taken, node_room}
use Rattle.reiser_make.specs.Shape.{Shape, shape}
use Rattle.reiser_make.specs.declared.inner.DiskChild.{DiskChild}
use Rattle.reiser_make.specs.declared.sample_item.SampleItem.{SampleItem}
use Rattle.reiser_volume.specs.reiser_node.Head.{head_at}
use Rattle.reiser_volume.specs.reiser_node.Inner.{IsInner, pointer_count, child_block_at}
use Rattle.reiser_volume.specs.reiser_node.Leaf.{IsLeaf, count, head_place, body_at}
use Rattle.reiser_make_laws.specs.Laws.{FitsSample, made}

-- the numbers of an item have room in its head, and its body has the length that the head says
pub record IsWritable (s : Shape) (item : SampleItem) : Type 0 where
  pub dir : item.head.dir < 2 ^ 32
  pub object : item.head.object < 2 ^ 32
  pub offset : item.head.offset < 2 ^ 32
  pub count : item.head.count < 2 ^ 16
  pub body : length (body_bytes s item.head.old item.body) ≡ item.head.length

-- a leaf reads as these items: it is on the grammar, and has so many, each with its head and its body
pub record ReadsAs (s : Shape) (items : List SampleItem) (bytes : List ℕ) : Type 0 where
  pub leaf : IsLeaf bytes
  pub count : count bytes ≡ length items
  pub heads : (i : ℕ) (d : SampleItem) → i < length items → head_at bytes (head_place i) ≡ Some (slice_index_or items i d).head
  pub bodies : (i : ℕ) (d : SampleItem) → i < length items → body_at bytes i ≡ body_bytes s (slice_index_or items i d).head.old (slice_index_or items i d).body

-- a leaf that was written of items that have room in it reads as these
abbrev pub LeavesReadBack : Type 0
LeavesReadBack = (s : Shape) (items : List SampleItem) → All (IsWritable s) items → 1 ≤ length items → bytes_taken items ≤ node_room → ReadsAs s items (leaf_bytes s items)

-- the number of a child's block has room in a pointer
abbrev pub FitsPointer : DiskChild → Type 0
FitsPointer c = c.block < 2 ^ 32

-- an inner node of a level names these children: it is on the grammar, and has so many pointers, each to the child's block
pub record NamesChildren (level : ℕ) (all : List DiskChild) (bytes : List ℕ) : Type 0 where
  pub inner : IsInner level bytes
  pub count : pointer_count bytes ≡ length all
  pub blocks : (i : ℕ) (d : DiskChild) → i < length all → child_block_at bytes i ≡ (slice_index_or all i d).block

-- an inner node that was written of children that have room in it names these
abbrev pub InnerNodesReadBack : Type 0
InnerNodesReadBack =
    (level : ℕ) (all : List DiskChild) → 2 ≤ level → level ≤ 6 → All FitsPointer all → 2 ≤ length all → length all ≤ 170 → NamesChildren level all (inner_bytes level all)

-- Each leaf of a sample reads as the items that the layout puts into it.
abbrev pub SampleLeavesReadBack : Type 0
SampleLeavesReadBack =
    (number : ℕ) (old : Bool) (blocks : ℕ) (image : Image) → FitsSample number old blocks image
    → let s = shape number old in (m : ℕ) → m < length (leaves s) → ReadsAs s (leaf_at s m) (block_at (made s blocks image) (node_place s 1 m))

-- Each node above a level names its children of that level.
abbrev pub SampleInnerNodesReadBack : Type 0
SampleInnerNodesReadBack =
    (number : ℕ) (old : Bool) (blocks : ℕ) (image : Image) → FitsSample number old blocks image
    → let s = shape number old in (below m : ℕ) → 1 ≤ below → below < root_level (length (leaves s)) → m < level_nodes (length (leaves s)) (below + 1)
    → NamesChildren (below + 1) (inner.children s below m) (block_at (made s blocks image) (node_place s (below + 1) m))
