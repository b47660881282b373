-- What the rules of the format ask of one node of a tree.
use Rattle.std.specs.Prelude.{ℕ, ◌==◌, nat_lt, Bool, ◌||◌, if◌then◌else◌, List, [], ◌∷◌, ◌++◌}
use Rattle.btr_node.specs.outside.History.{Image}
use Rattle.btr_node.specs.refusals.declared.rule.BtrRule.{BtrRule}
use Rattle.btr_node.specs.refusals.declared.rule.BtrRule.TheVariants.{Unmapped, NodeHead}
use Rattle.btr_node.specs.Head.{nritems}
use Rattle.btr_node.specs.Rules.{broken, leaf_damages, inner_damages}
use Rattle.btr_node.specs.declared.child.Child.{Child}
use Rattle.btr_node.specs.declared.expect.Expect.{Expect}
use Rattle.btr_reader_walk.specs.declared.tree.Form.{Form}
use Rattle.btr_reader_walk.specs.declared.tree.NodePointer.{NodePointer}
use Rattle.btr_reader_walk.specs.declared.map.MapRange.{MapRange}
use Rattle.btr_reader_walk.specs.Map.{is_mapped, node_at}

-- what is known of a node by the pointer to it, and by the tree that it belongs to
abbrev pub want : Form → ℕ → NodePointer → Expect
want form owner p =
    record { address = p.address; fsid = form.fsid; owner = owner; level = p.level; generation = p.generation; sums = form.sums }

-- a pointer to a child of a node, whose level is this
abbrev pub child_pointer : ℕ → Child → NodePointer
child_pointer level child = record { address = child.address; level = level; generation = child.generation }

-- the rules that the bytes of a node break; a leaf that may be bare has no items or some
abbrev pub content_damages : Expect → Bool → List ℕ → List BtrRule
content_damages want bare bytes =
    if want.level == 0 then leaf_damages want bytes ++ broken (bare || nat_lt 0 (nritems bytes)) NodeHead else inner_damages want bytes

-- the rules that a node breaks
unfoldable pub node_damages : Image → List MapRange → Form → ℕ → Bool → NodePointer → List BtrRule
node_damages image ranges form owner bare p =
    if is_mapped ranges form.nodesize p.address
    then content_damages (want form owner p) bare (node_at image ranges form.nodesize p.address)
    else Unmapped ∷ []
