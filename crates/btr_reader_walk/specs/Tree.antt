-- The items of a tree, and what is wrong with a tree.
use Rattle.std.specs.Prelude.{◌≡◌, ℕ, Bool, true, List, [], ◌∷◌, ◌++◌, map, Option, Some, None, if◌then◌else◌}
use Rattle.std.specs.List.{flat_map}
use Rattle.btr_node.specs.outside.History.{Image}
use Rattle.btr_node.specs.refusals.declared.refusal.BtrRefusal.{BtrRefusal}
use Rattle.btr_node.specs.refusals.declared.refusal.BtrRefusal.TheVariants.{BadBtrfs}
use Rattle.btr_node.specs.refusals.declared.rule.BtrRule.{BtrRule}
use Rattle.btr_node.specs.refusals.declared.rule.BtrRule.TheVariants.{KeyOrder}
use Rattle.btr_node.specs.btr_keys.declared.key.Key.{Key}
use Rattle.btr_node.specs.Leaf.{Item}
use Rattle.btr_node.specs.Order.{is_before}
use Rattle.btr_reader_walk.specs.declared.tree.Form.{Form}
use Rattle.btr_reader_walk.specs.declared.tree.NodePointer.{NodePointer}
use Rattle.btr_reader_walk.specs.declared.map.MapRange.{MapRange}
use Rattle.btr_reader_walk.specs.Node.{node_damages}
use Rattle.btr_reader_walk.specs.Events.{TreeItem, TreeEvent, walk_events, nodes_in, items_in_events, may_be_bare}

-- a rule that is broken at each of these, at this address
abbrev pub at_address : ℕ → List BtrRule → List BtrRefusal
at_address address rules = map (λ rule. BadBtrfs address rule) rules

-- what is wrong with the node that a pointer names
abbrev pub pointer_damages : Image → List MapRange → Form → ℕ → Bool → NodePointer → List BtrRefusal
pointer_damages image ranges form owner bare p = at_address p.address (node_damages image ranges form owner bare p)

-- a key is above the last one, if there is one
abbrev pub is_above : Option Key → Key → Bool
is_above None key = true
is_above (Some last) key = is_before last key

-- an item whose key is not above that of the one before, in whatever leaf that is, is wrong in its leaf
abbrev pub order_damages : Option Key → List TreeItem → List BtrRefusal
order_damages last [] = []
order_damages last (i ∷ items) =
    at_address i.leaf (if is_above last i.key then [] else KeyOrder ∷ []) ++ order_damages (Some i.key) items

-- what is wrong with the nodes that are met
abbrev pub node_faults : Image → List MapRange → Form → ℕ → Bool → List TreeEvent → List BtrRefusal
node_faults image ranges form owner bare events = flat_map (pointer_damages image ranges form owner bare) (nodes_in events)

-- all that is wrong with a tree
abbrev pub tree_refusals : Image → List MapRange → Form → NodePointer → ℕ → List BtrRefusal
tree_refusals image ranges form root owner =
    node_faults image ranges form owner (may_be_bare root) (walk_events image ranges form root owner)
    ++ order_damages None (items_in_events (walk_events image ranges form root owner))

-- the items that a walk of a tree meets, each with its leaf
abbrev pub leaf_items : Image → List MapRange → Form → NodePointer → ℕ → List TreeItem
leaf_items image ranges form root owner = items_in_events (walk_events image ranges form root owner)

abbrev pub bare_item : TreeItem → Item
bare_item i = (i.key, i.body)

abbrev pub when_sound : {A : Type 0} → List BtrRefusal → A → Option A
when_sound [] x = Some x
when_sound (refusal ∷ refusals) x = None

-- The items of the tree with this root and this number. There are some where each node meets its checksum, its address,
-- the file system, the tree's number as its owner, level, generation and layout; no node other than a root leaf is empty;
-- and keys ascend over the whole.
abbrev pub tree_items : Image → List MapRange → Form → NodePointer → ℕ → Option (List Item)
tree_items image ranges form root owner =
    when_sound (tree_refusals image ranges form root owner) (map bare_item (leaf_items image ranges form root owner))

-- The same as a fact.
pub record IsTree (image : Image) (ranges : List MapRange) (form : Form) (root : NodePointer) (owner : ℕ) (items : List Item) : Type 0 where
  pub sound : tree_refusals image ranges form root owner ≡ []
  pub items_are : map bare_item (leaf_items image ranges form root owner) ≡ items
