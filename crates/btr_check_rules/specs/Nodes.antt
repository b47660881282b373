-- Part 1 too: what Linux asks of the bytes of a node, besides what every reader of trees does. It fails at the address of the
-- node.
use Rattle.std.specs.Prelude.{◌≡◌, ◌⊎◌, ◌≤◌, ℕ, ◌+◌, ◌==◌, Bool, List, [], ◌∷◌, length, replicate, All}
use Rattle.std.specs.List.{list_any}
use Rattle.btr_reader_walk.specs.btrfs_format.declared.flag.TheConstants.{HEADER_FLAG_WRITTEN, MIXED_BACKREF_REV}
use Rattle.btr_reader.specs.outside.History.{Image}
use Rattle.btr_reader.specs.btr_keys.Key.{key_layout}
use Rattle.btr_reader.specs.btr_node.Head.{behind_head, head_in}
use Rattle.btr_reader.specs.btr_node.Inner.{children_in}
use Rattle.btr_reader.specs.btr_node.Leaf.{heads_in}
use Rattle.btr_reader.specs.btr_node.declared.child.Child.{Child}
use Rattle.btr_reader.specs.btr_node.declared.head.Head.{Head}
use Rattle.btr_reader.specs.btr_node.declared.item.BtrItemHead.{BtrItemHead}
use Rattle.btr_reader.specs.btr_reader_walk.Map.{node_at}
use Rattle.btr_reader.specs.btr_reader_walk.declared.tree.NodePointer.{NodePointer}
use Rattle.btr_reader.specs.Opening.{chunk_map}
use Rattle.btr_check_rules.specs.Recount.{Recount, TreeOn, EachAt}

-- the bytes of the node at an address
abbrev pub node_bytes : Image → Recount → ℕ → List ℕ
node_bytes image r address = node_at image (chunk_map image r.super) r.super.nodesize address

-- a node that a balance made has one flag more (BTRFS_HEADER_FLAG_RELOC)
abbrev pub RELOCATED : ℕ
RELOCATED = 2

abbrev pub is_relocated : Head → Bool
is_relocated h = list_any (λ b. b == HEADER_FLAG_WRITTEN + RELOCATED) h.flags

-- A node was written, and has the references of today's form (check_leaf and btrfs_check_node from Linux 6.7 on;
-- `btrfs check`).
pub record IsWritten (h : Head) : Type 0 where
  pub flags : (h.flags ≡ (HEADER_FLAG_WRITTEN ∷ replicate 6 0)) ⊎ (h.flags ≡ ((HEADER_FLAG_WRITTEN + RELOCATED) ∷ replicate 6 0))
  pub revision : h.revision ≡ MIXED_BACKREF_REV

-- The data of the first item ends where this says, and that of each other one where the one before begins (check_leaf).
abbrev pub ArePacked : ℕ → List BtrItemHead → Type 0
ArePacked end [] = Unit {0}
ArePacked end (h ∷ heads) = (h.offset + h.size ≡ end) × ArePacked h.offset heads

-- a node is no newer than the superblock (`btrfs check`), and the data of a leaf end with it
pub record KeepsNode (image : Image) (r : Recount) (p : NodePointer) : Type 0 where
  pub written : IsWritten (head_in (node_bytes image r p.address))
  pub generation : p.generation ≤ r.super.generation
  pub packed : p.level ≡ 0 → ArePacked (length (behind_head (node_bytes image r p.address))) (heads_in (node_bytes image r p.address))

-- The first key of a node with an item or a child: what stands behind the head begins with it. It stands beside the pointer in the
-- node's parent (btrfs_verify_level_key; "Wrong key of child" of `btrfs check`).
abbrev pub HasFirstKey : Image → Recount → Child → Type 0
HasFirstKey image r c = c.key ≡ key_layout.read (behind_head (node_bytes image r c.address))

abbrev pub KeepsChildren : Image → Recount → ℕ → NodePointer → Type 0
KeepsChildren image r a p = 1 ≤ p.level → EachAt (λ c. c.address) a (HasFirstKey image r) (children_in (node_bytes image r p.address))

-- What part 1 asks of the nodes of a tree at an address.
pub record KeepsNodes (image : Image) (r : Recount) (a : ℕ) (t : TreeOn) : Type 0 where
  pub each : EachAt (λ p. p.address) a (KeepsNode image r) t.nodes
  pub children : All (KeepsChildren image r a) t.nodes
