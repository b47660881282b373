-- Nodes that were written, byte for byte, and the form in which Linux wants them.
use Rattle.std.specs.Prelude.{◌≡◌, ◌⊎◌, ℕ, ◌+◌, ◌≤◌, List, [], ◌∷◌, length, replicate}
use Rattle.std.specs.List.{All}
use Rattle.btr_node.specs.btrfs_format.declared.flag.TheConstants.{HEADER_FLAG_WRITTEN, MIXED_BACKREF_REV}
use Rattle.btr_node.specs.outside.History.{Image}
use Rattle.btr_node.specs.btr_keys.Key.{key_layout}
use Rattle.btr_node.specs.btr_keys.declared.key.Key.{Key}
use Rattle.btr_node.specs.Draft.{Draft, IsDraft, node_bytes}
use Rattle.btr_node.specs.Head.{head_in, behind_head}
use Rattle.btr_node.specs.Inner.{children_in}
use Rattle.btr_node.specs.Leaf.{heads_in}
use Rattle.btr_node.specs.declared.child.Child.{Child}
use Rattle.btr_node.specs.declared.expect.Expect.{Expect}
use Rattle.btr_node.specs.declared.item.BtrItemHead.{BtrItemHead}
use Rattle.btr_reader_walk.specs.Events.{nodes_in, walk_events}
use Rattle.btr_reader_walk.specs.Map.{node_at}
use Rattle.btr_reader_walk.specs.Node.{want}
use Rattle.btr_reader_walk.specs.declared.map.MapRange.{MapRange}
use Rattle.btr_reader_walk.specs.declared.tree.Form.{Form}
use Rattle.btr_reader_walk.specs.declared.tree.NodePointer.{NodePointer}

-- The bytes of a node are exactly those of a draft of which its parent says this.
pub record IsExact (nodesize : ℕ) (want : Expect) (chunk_tree bytes : List ℕ) : Type 0 where
  pub draft : Draft
  pub right : IsDraft draft
  pub nodesize_is : draft.nodesize ≡ nodesize
  pub want_is : draft.want ≡ want
  pub chunk_tree_is : draft.chunk_tree ≡ chunk_tree
  pub bytes_are : bytes ≡ node_bytes draft

-- The first key of a node with an item or a child: what stands behind the head begins with it.
abbrev pub first_key_in : List ℕ → Key
first_key_in bytes = key_layout.read (behind_head bytes)

-- the key that stands beside the pointer to a child is the first key of the child
abbrev pub HasFirstKey : Image → List MapRange → ℕ → Child → Type 0
HasFirstKey image ranges nodesize child = child.key ≡ first_key_in (node_at image ranges nodesize child.address)

-- so it is at each child of a node
abbrev pub HasFirstKeys : Image → List MapRange → ℕ → List ℕ → Type 0
HasFirstKeys image ranges nodesize bytes = All (HasFirstKey image ranges nodesize) (children_in bytes)

-- A node of a tree that was written whole.
pub record IsWhole (image : Image) (ranges : List MapRange) (form : Form) (owner : ℕ) (chunk_tree : List ℕ) (p : NodePointer) : Type 0 where
  pub exact : IsExact form.nodesize (want form owner p) chunk_tree (node_at image ranges form.nodesize p.address)
  pub firsts : 1 ≤ p.level → HasFirstKeys image ranges form.nodesize (node_at image ranges form.nodesize p.address)

-- each node of the tree under this root is so
abbrev pub IsWholeTree : Image → List MapRange → Form → ℕ → List ℕ → NodePointer → Type 0
IsWholeTree image ranges form owner chunk_tree root =
    All (IsWhole image ranges form owner chunk_tree) (nodes_in (walk_events image ranges form root owner))

-- The flags of the header say that the node was written, and nothing else but that a balance made it; the revision is that
-- of today's format.
pub record IsWritten (bytes : List ℕ) : Type 0 where
  pub flags : (rest : ℕ) × ((rest ≡ 0) ⊎ (rest ≡ 2)) × ((head_in bytes).flags ≡ (HEADER_FLAG_WRITTEN + rest) ∷ replicate 6 0)
  pub revision : (head_in bytes).revision ≡ MIXED_BACKREF_REV

-- the data of the first item ends at `end`, and that of each other one where the one before begins
abbrev pub ArePacked : ℕ → List BtrItemHead → Type 0
ArePacked end [] = Unit {0}
ArePacked end (head ∷ heads) = (head.offset + head.size ≡ end) × ArePacked head.offset heads

-- the data of a leaf, from its end on
abbrev pub IsPacked : List ℕ → Type 0
IsPacked bytes = ArePacked (length (behind_head bytes)) (heads_in bytes)

-- what Linux wants of a node of a tree besides what each reader does
pub record HasLinuxForm (image : Image) (ranges : List MapRange) (nodesize : ℕ) (p : NodePointer) : Type 0 where
  pub written : IsWritten (node_at image ranges nodesize p.address)
  pub packed : p.level ≡ 0 → IsPacked (node_at image ranges nodesize p.address)
  pub firsts : 1 ≤ p.level → HasFirstKeys image ranges nodesize (node_at image ranges nodesize p.address)
