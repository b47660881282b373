use Rattle.btr_check_walk.proofs.Imports.{◌≡◌, List, IsTrue, TreeItem, nodes_fuel, Stands}
use Rattle.btr_check_walk.proofs.Visiting.{IsOf, Visited}
use Rattle.btr_check_walk.proofs.walk.each_item.Given as goal

abbrev pub invariant-loop-entry : goal.invariant-loop-entry
invariant-loop-entry g l = record {
  kept : g.S.BlockSource.kept l.fn.src l.src;
  same : g.S.BlockSource.faults l.src ≡ g.S.BlockSource.faults l.fn.src;
  of : IsOf l.fn.tree l.walker;
  walks : IsTrue g.S.BlockSource.tells → (items : List TreeItem) × Visited (g.S.BlockSource.blocks l.fn.src) l.ranges l.fn.tree l.walker items × Stands (g.V.ItemVisitor.holds l.fn.visitor l.visitor) l.last items;
}

abbrev pub decreases-loop-entry : goal.decreases-loop-entry
decreases-loop-entry g l = nodes_fuel l.walker
