use Rattle.btr_check_references.proofs.Imports.{take, AreRangesOf}
use Rattle.btr_check_references.proofs.node_map.node_ranges.Given as goal

abbrev pub invariant-loop-span : goal.invariant-loop-span
invariant-loop-span l = AreRangesOf (take l.span-index l.spans) l.ranges.items l.total
