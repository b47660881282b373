use Rattle.btr_check_references.proofs.Imports.{◌<◌, ℕ, get_or, NodeRange}
use Rattle.btr_check_references.proofs.Blocks.{IsRangeOwned}
use Rattle.btr_check_references.proofs.node_table.NodeMap.unowned.Given as goal

abbrev pub invariant-loop-range : goal.invariant-loop-range
invariant-loop-range l = (k : ℕ) (d : NodeRange) → k < l.range-index → IsRangeOwned l.fn.self.states.items (get_or l.fn.self.ranges.items k d)
