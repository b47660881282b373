use Rattle.space_items.proofs.Imports.{◌+◌, ◌-◌, length}
use Rattle.space_items.proofs.NodeMerge.{IsMerging}
use Rattle.space_items.proofs.own_count.merged.Given as goal

abbrev pub invariant-loop-i : goal.invariant-loop-i
invariant-loop-i l = IsMerging l.nodes l.others l.all l.i l.j

abbrev pub decreases-loop-i : goal.decreases-loop-i
decreases-loop-i l = (length l.nodes - l.i) + (length l.others - l.j)
