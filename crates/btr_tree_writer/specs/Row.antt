-- Trees in one row of slots.
use Rattle.std.specs.Prelude.{◌≡◌, ◌^◌, ◌≤◌, ◌<◌, length, map, take, AllPairs}
use Rattle.btr_tree.specs.btr_node.NodeSize.{IsNodeSize}
use Rattle.btr_tree.specs.Building.{AreSlots}
use Rattle.btr_tree_writer.specs.declared.trees.Trees.{Trees}

-- The slots serve, and each that is taken has the node of its address.
pub record IsSlotRow (t : Trees) : Type 0 where
  pub size : IsNodeSize t.form.nodesize
  pub slots : AreSlots t.form.nodesize t.slots
  pub ascending : AllPairs (λ a b. a < b) t.slots
  pub few : length t.slots < 2 ^ 43
  pub within : t.taken ≤ length t.slots
  pub nodes : map (λ n. n.address) t.nodes ≡ take t.taken t.slots
