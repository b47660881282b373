-- What is wrong with the tree of a volume: each rule with the block at which it fails.
use Rattle.std.specs.Prelude.{ℕ, ◌==◌, nat_lt, Bool, true, ◌||◌, ◌&&◌, not, List, [], ◌∷◌, ◌++◌, length, Option, Some, None, if◌then◌else◌}
use Rattle.std.specs.List.{flat_map, list_any}
use Rattle.std.specs.Ordering.{is_lt}
use Rattle.reiser_bitmap.specs.outside.History.{Image, block_at}
use Rattle.reiser_bitmap.specs.refusals.declared.refusal.VolumeRefusal.{VolumeRefusal}
use Rattle.reiser_bitmap.specs.refusals.declared.refusal.VolumeRefusal.TheVariants.{Damaged}
use Rattle.reiser_bitmap.specs.refusals.declared.rule.Rule.{Rule}
use Rattle.reiser_bitmap.specs.refusals.declared.rule.Rule.TheVariants.{NodeHead, Layout, KeyOrder, BlockFree, BlockRange, BlockTwice, Body}
use Rattle.reiser_items.specs.reiser_node.declared.head.ItemHead.{ItemHead}
use Rattle.reiser_items.specs.reiser_node.Leaf.{level, count, is_leaf}
use Rattle.reiser_items.specs.reiser_node.Inner.{is_inner}
use Rattle.reiser_items.specs.Order.{key_order}
use Rattle.reiser_bitmap.specs.Bits.{has}
use Rattle.reiser_bitmap.specs.System.{is_system}
use Rattle.reiser_walk.specs.declared.block_pointer.BlockPointer.{BlockPointer}
use Rattle.reiser_walk.specs.declared.reiser_tree.ReiserTree.{ReiserTree}
use Rattle.reiser_walk.specs.Bodies.{is_body}
use Rattle.reiser_walk.specs.Items.{ReiserItem, Event}
use Rattle.reiser_walk.specs.Tree.{Visit, visits_in, items_of_events, reached_in, tree_events}

-- the rule fails at that block, if the test fails
abbrev pub unless : Bool → ℕ → Rule → List VolumeRefusal
unless test block rule = if test then [] else Damaged block rule ∷ []

-- the block is on the grammar of the level
abbrev pub is_node : ℕ → List ℕ → Bool
is_node wanted bytes = if wanted == 1 then is_leaf bytes else is_inner wanted bytes

-- which rule a block off the grammar breaks: its level is another or it is empty, or else what follows is wrong
abbrev pub broken_rule : ℕ → List ℕ → Rule
broken_rule wanted bytes = if (level bytes == wanted) && nat_lt 0 (count bytes) then Layout else NodeHead

-- a block that is read as a node is on the grammar of its level
abbrev pub node_damage : ℕ → ℕ → List ℕ → List VolumeRefusal
node_damage wanted b bytes = unless (is_node wanted bytes) b (broken_rule wanted bytes)

abbrev pub visit_damage : Image → ℕ → Visit → List VolumeRefusal
visit_damage image n v = if nat_lt v.to.block n then node_damage v.level v.to.block (block_at image v.to.block) else []

abbrev pub is_in : List ℕ → ℕ → Bool
is_in seen b = list_any (λ s. s == b) seen

-- the block is one of those that the volume keeps for itself
abbrev pub is_system_of : ReiserTree → ℕ → Bool
is_system_of tree b = is_system tree.journal_first tree.journal_size b

-- a block that is reached lies in the volume, is used, is no system block, and was not reached before
abbrev pub reach_damage : ReiserTree → List Bool → List ℕ → BlockPointer → List VolumeRefusal
reach_damage tree used seen p =
    if nat_lt p.block (length used)
    then unless (has used p.block) p.block BlockFree ++ unless (not (is_system_of tree p.block || is_in seen p.block)) p.block BlockTwice
    else Damaged p.holder BlockRange ∷ []

-- the same of each, after those that were seen before
abbrev pub reach_damages : ReiserTree → List Bool → List ℕ → List BlockPointer → List VolumeRefusal
reach_damages tree used seen [] = []
reach_damages tree used seen (p ∷ ps) = reach_damage tree used seen p ++ reach_damages tree used (p.block ∷ seen) ps

-- an item is above the one before it
abbrev pub is_above : Option ItemHead → ItemHead → Bool
is_above None head = true
is_above (Some last) head = is_lt (key_order last head)

abbrev pub order_damages : Option ItemHead → List ReiserItem → List VolumeRefusal
order_damages last [] = []
order_damages last (i ∷ items) = unless (is_above last i.head) i.leaf KeyOrder ++ order_damages (Some i.head) items

-- an item's body fits its head
abbrev pub body_damage : ReiserItem → List VolumeRefusal
body_damage i = unless (is_body i.head i.body) i.leaf Body

-- each rule over the whole of a list of events
abbrev pub damages : ReiserTree → Image → List Bool → List Event → List VolumeRefusal
damages tree image used events =
    (flat_map (visit_damage image (length used)) (visits_in events) ++ reach_damages tree used [] (reached_in events))
    ++ (order_damages None (items_of_events events) ++ flat_map body_damage (items_of_events events))

-- All that is wrong with the tree of a volume whose bitmap is this. A refusal by the rules of the tree is any of them.
abbrev pub tree_damages : ReiserTree → Image → List Bool → List VolumeRefusal
tree_damages tree image used = damages tree image used (tree_events tree image (length used))
