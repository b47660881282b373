use Rattle.btr_tree.proofs.Sizes.{IsUnderWay}
use Rattle.btr_tree.proofs.levels.count_nodes.Given as goal

abbrev pub invariant-loop-level : goal.invariant-loop-level
invariant-loop-level l = IsUnderWay l.fan_out l.leaves l.nodes l.level

abbrev pub decreases-loop-level : goal.decreases-loop-level
decreases-loop-level l = l.level
