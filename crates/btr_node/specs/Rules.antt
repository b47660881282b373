-- What the rules of the format ask of a node, and which of them it breaks.
use Rattle.std.specs.Prelude.{◌≡◌, ℕ, ◌≤◌, Bool, true, false, List, [], ◌∷◌, ◌++◌}
use Rattle.refusals.specs.declared.rule.BtrRule.{BtrRule}
use Rattle.refusals.specs.declared.rule.BtrRule.TheVariants.{NodeCsum, NodeHead, NodeLayout, KeyOrder}
use Rattle.btr_node.specs.Head.{nritems, HasHead}
use Rattle.btr_node.specs.Sum.{HasSum, has_sum}
use Rattle.btr_node.specs.Order.{Ascends}
use Rattle.btr_node.specs.Leaf.{HasLeafLayout, items_in, keys_of, has_leaf_head, has_leaf_layout, has_leaf_order}
use Rattle.btr_node.specs.Inner.{HasInnerLayout, children_in, first_keys, has_inner_head, has_inner_layout, has_inner_order}
use Rattle.btr_node.specs.declared.expect.Expect.{Expect}

-- Other rules ask nothing of a leaf alone.
abbrev pub LeafObeys : BtrRule → Expect → List ℕ → Type 0
LeafObeys NodeCsum want bytes = HasSum want.sums bytes
LeafObeys NodeHead want bytes = (want.level ≡ 0) × HasHead want bytes
LeafObeys NodeLayout want bytes = HasLeafLayout bytes
LeafObeys KeyOrder want bytes = Ascends (keys_of (items_in bytes))
LeafObeys _ want bytes = Unit {0}

abbrev pub InnerObeys : BtrRule → Expect → List ℕ → Type 0
InnerObeys NodeCsum want bytes = HasSum want.sums bytes
InnerObeys NodeHead want bytes = (1 ≤ want.level) × (1 ≤ nritems bytes) × HasHead want bytes
InnerObeys NodeLayout want bytes = HasInnerLayout bytes
InnerObeys KeyOrder want bytes = Ascends (first_keys (children_in bytes))
InnerObeys _ want bytes = Unit {0}

-- a rule, where it does not hold
abbrev pub broken : Bool → BtrRule → List BtrRule
broken true rule = []
broken false rule = rule ∷ []

-- the rules that do not hold, where these tests say which do: of the checksum, the head, the layout and the keys
abbrev pub damages_of : Bool → Bool → Bool → Bool → List BtrRule
damages_of sum head layout order = broken sum NodeCsum ++ (broken head NodeHead ++ (broken layout NodeLayout ++ broken order KeyOrder))

-- the rules that a leaf breaks
unfoldable pub leaf_damages : Expect → List ℕ → List BtrRule
leaf_damages want bytes = damages_of (has_sum want.sums bytes) (has_leaf_head want bytes) (has_leaf_layout bytes) (has_leaf_order bytes)

-- the rules that an inner node breaks
unfoldable pub inner_damages : Expect → List ℕ → List BtrRule
inner_damages want bytes = damages_of (has_sum want.sums bytes) (has_inner_head want bytes) (has_inner_layout bytes) (has_inner_order bytes)
