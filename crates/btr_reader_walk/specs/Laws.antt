-- A tree from its leaves up, and which blocks decide it.
use Rattle.std.specs.Prelude.{◌≡◌, ℕ, suc, nat_lt, Bool, true, ◌||◌, List, [], ◌∷◌, map, Some}
use Rattle.std.specs.List.{All, flat_map}
use Rattle.btr_node.specs.outside.History.{Image}
use Rattle.btr_node.specs.refusals.declared.refusal.BtrRefusal.{BtrRefusal}
use Rattle.btr_node.specs.Head.{nritems}
use Rattle.btr_node.specs.Leaf.{Item, IsBtrfsLeaf, items_in, keys_of}
use Rattle.btr_node.specs.Inner.{IsBtrfsInner, children_in}
use Rattle.btr_node.specs.Order.{Ascends}
use Rattle.btr_reader_walk.specs.declared.tree.Form.{Form}
use Rattle.btr_reader_walk.specs.declared.tree.NodePointer.{NodePointer}
use Rattle.btr_reader_walk.specs.declared.tree.Owners.TheVariants.{Own}
use Rattle.btr_reader_walk.specs.declared.tree.Tree.{Tree}
use Rattle.btr_reader_walk.specs.declared.map.MapRange.{MapRange}
use Rattle.btr_reader_walk.specs.Map.{is_mapped, node_at}
use Rattle.btr_reader_walk.specs.Node.{want, child_pointer}
use Rattle.btr_reader_walk.specs.Nodes.{tree_nodes}
use Rattle.btr_reader_walk.specs.Events.{pointer_events, walk_events, nodes_in, items_in_events, may_be_bare}
use Rattle.btr_reader_walk.specs.Tree.{node_faults, bare_item, tree_items}

-- the items at a node and below it
abbrev pub items_below : Image → List MapRange → Form → ℕ → Bool → NodePointer → List Item
items_below image ranges form owner bare p = map bare_item (items_in_events (pointer_events image ranges form owner bare p))

-- what is wrong with the nodes there
abbrev pub faults_below : Image → List MapRange → Form → ℕ → Bool → NodePointer → List BtrRefusal
faults_below image ranges form owner bare p = node_faults image ranges form owner bare (pointer_events image ranges form owner bare p)

-- nothing is wrong with the nodes there, and the items are these
pub record IsSubtree (image : Image) (ranges : List MapRange) (form : Form) (owner : ℕ) (bare : Bool) (p : NodePointer) (items : List Item) : Type 0 where
  pub sound : faults_below image ranges form owner bare p ≡ []
  pub items_are : items_below image ranges form owner bare p ≡ items

-- a leaf gives its own items
abbrev pub LeavesGiveItems : Type 0
LeavesGiveItems =
    (image : Image) (ranges : List MapRange) (form : Form) (owner : ℕ) (bare : Bool) (p : NodePointer)
    → is_mapped ranges form.nodesize p.address ≡ true
    → IsBtrfsLeaf (want form owner p) (node_at image ranges form.nodesize p.address)
    → (bare || nat_lt 0 (nritems (node_at image ranges form.nodesize p.address))) ≡ true
    → IsSubtree image ranges form owner bare p (items_in (node_at image ranges form.nodesize p.address))

-- the children of an inner node are subtrees, each of its own items
abbrev pub AreSubtrees : Image → List MapRange → Form → ℕ → Bool → List NodePointer → List (List Item) → Type 0
AreSubtrees image ranges form owner bare [] [] = Unit {0}
AreSubtrees image ranges form owner bare [] (items ∷ lists) = ⊥
AreSubtrees image ranges form owner bare (p ∷ ps) [] = ⊥
AreSubtrees image ranges form owner bare (p ∷ ps) (items ∷ lists) =
    IsSubtree image ranges form owner bare p items × AreSubtrees image ranges form owner bare ps lists

-- an inner node gives the items of its children, one child after the other
abbrev pub ChildrenGiveItems : Type 0
ChildrenGiveItems =
    (image : Image) (ranges : List MapRange) (form : Form) (owner : ℕ) (bare : Bool) (p : NodePointer) (level : ℕ) (lists : List (List Item))
    → p.level ≡ suc level
    → is_mapped ranges form.nodesize p.address ≡ true
    → IsBtrfsInner (want form owner p) (node_at image ranges form.nodesize p.address)
    → AreSubtrees image ranges form owner bare (map (child_pointer level) (children_in (node_at image ranges form.nodesize p.address))) lists
    → IsSubtree image ranges form owner bare p (flat_map (λ items. items) lists)

-- a subtree whose keys ascend is the tree of its root
abbrev pub SubtreesAreTrees : Type 0
SubtreesAreTrees =
    (image : Image) (ranges : List MapRange) (form : Form) (owner : ℕ) (root : NodePointer) (items : List Item)
    → IsSubtree image ranges form owner (may_be_bare root) root items → Ascends (keys_of items)
    → tree_items image ranges form root owner ≡ Some items

-- Where two disks have the same bytes in the nodes that are met, the same is met.
abbrev pub NodesDecide : Type 0
NodesDecide =
    (image other : Image) (ranges : List MapRange) (form : Form) (owner : ℕ) (bare : Bool) (p : NodePointer)
    → All (λ q. node_at other ranges form.nodesize q.address ≡ node_at image ranges form.nodesize q.address)
    (nodes_in (pointer_events image ranges form owner bare p))
    → pointer_events other ranges form owner bare p ≡ pointer_events image ranges form owner bare p

-- Where a tree has its own nodes alone, its nodes are those that a walk over its items meets.
abbrev pub NodesAreMet : Type 0
NodesAreMet =
    (image : Image) (ranges : List MapRange) (tree : Tree)
    → map (λ e. e.pointer) (tree_nodes image ranges tree Own) ≡ nodes_in (walk_events image ranges tree.form tree.root tree.owner)
