-- A tree as one list of what a walk meets.
use Rattle.std.specs.Prelude.{ℕ, zero, suc, ◌==◌, Bool, List, [], ◌∷◌, map}
use Rattle.std.specs.List.{flat_map}
use Rattle.btr_node.specs.outside.History.{Image}
use Rattle.btr_node.specs.refusals.declared.rule.BtrRule.{BtrRule}
use Rattle.btr_node.specs.btr_keys.declared.key.Key.{Key}
use Rattle.btr_node.specs.Leaf.{Item, items_in}
use Rattle.btr_node.specs.Inner.{children_in}
use Rattle.btr_reader_walk.specs.declared.tree.Form.{Form}
use Rattle.btr_reader_walk.specs.declared.tree.NodePointer.{NodePointer}
use Rattle.btr_reader_walk.specs.declared.map.MapRange.{MapRange}
use Rattle.btr_reader_walk.specs.Map.{node_at}
use Rattle.btr_reader_walk.specs.Node.{node_damages}

-- an item of a tree, and the address of its leaf
pub record TreeItem : Type 0 where
  pub leaf : ℕ
  pub key : Key
  pub body : List ℕ

-- a pointer to a node, or an item
pub data TreeEvent : Type 0 where
  node : NodePointer → TreeEvent
  item : TreeItem → TreeEvent

abbrev pub in_leaf : ℕ → Item → TreeItem
in_leaf address i = record { leaf = address; key = i.0; body = i.1 }

-- the items of a leaf
abbrev pub leaf_events : ℕ → List Item → List TreeEvent
leaf_events address items = map (λ i. item (in_leaf address i)) items

-- what is met where no rule is broken
abbrev pub unless_damaged : {A : Type 0} → List BtrRule → List A → List A
unless_damaged [] events = events
unless_damaged (rule ∷ rules) events = []

-- A node of this level at an address, of a generation, and what lies below it: the items of a leaf, or what is met at each
-- child. A node that breaks a rule is not opened.
unfoldable pub node_events : Image → List MapRange → Form → ℕ → Bool → ℕ → ℕ → ℕ → List TreeEvent
node_events image ranges form owner bare zero address generation =
    node (record { address = address; level = 0; generation = generation })
    ∷ unless_damaged (node_damages image ranges form owner bare (record { address = address; level = 0; generation = generation }))
    (leaf_events address (items_in (node_at image ranges form.nodesize address)))
node_events image ranges form owner bare (suc level) address generation =
    node (record { address = address; level = suc level; generation = generation })
    ∷ unless_damaged (node_damages image ranges form owner bare (record { address = address; level = suc level; generation = generation }))
    (flat_map (λ child. node_events image ranges form owner bare level child.address child.generation)
    (children_in (node_at image ranges form.nodesize address)))

-- what is met at a node and below it
abbrev pub pointer_events : Image → List MapRange → Form → ℕ → Bool → NodePointer → List TreeEvent
pointer_events image ranges form owner bare p = node_events image ranges form owner bare p.level p.address p.generation

-- only a leaf that is the tree's root may be empty
abbrev pub may_be_bare : NodePointer → Bool
may_be_bare root = root.level == 0

-- what a walk of a whole tree meets
abbrev pub walk_events : Image → List MapRange → Form → NodePointer → ℕ → List TreeEvent
walk_events image ranges form root owner = pointer_events image ranges form owner (may_be_bare root) root

abbrev pub nodes_in : List TreeEvent → List NodePointer
nodes_in [] = []
nodes_in (node p ∷ events) = p ∷ nodes_in events
nodes_in (item i ∷ events) = nodes_in events

abbrev pub items_in_events : List TreeEvent → List TreeItem
items_in_events [] = []
items_in_events (node p ∷ events) = items_in_events events
items_in_events (item i ∷ events) = i ∷ items_in_events events
