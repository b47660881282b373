use Rattle.btr_check_walk.proofs.Imports.{List, items_in, TreeItem, Stands}
use Rattle.btr_check_walk.proofs.Steps.{with_first}
use Rattle.btr_check_walk.proofs.walk.give_leaf.Given as goal

abbrev pub invariant-loop-i : goal.invariant-loop-i
invariant-loop-i g l =
    (begun : _) (items : List TreeItem) → Stands (g.V.ItemVisitor.holds begun l.fn.visitor) l.fn.last items
    → Stands (g.V.ItemVisitor.holds begun l.visitor) l.last (with_first l.fn.address (items_in l.fn.bytes) items l.i)
