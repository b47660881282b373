use Rattle.btr_check_sums.proofs.Imports.{◌≡◌, IsTrue, List, false, map, TreeItem, bare_item, Walks, fuel, HoldsDue, IsReady}
use Rattle.btr_check_sums.proofs.tree_data.judge_data.Given as goal

abbrev pub invariant-loop-walker : goal.invariant-loop-walker
invariant-loop-walker g l = record {
  kept : g.S.BlockSource.kept l.fn.src l.src;
  same : g.S.BlockSource.faults l.src ≡ g.S.BlockSource.faults l.fn.src;
  tree : l.walker.tree ≡ l.fn.tree;
  fresh : l.walker.spent ≡ false;
  kind : l.pass.kind ≡ l.fn.tree.form.sums;
  ready : IsReady (g.S.BlockSource.size l.fn.src) l.ranges l.pass;
  walks :
      IsTrue g.S.BlockSource.tells
      → (given : List TreeItem) × Walks l.walker (g.S.BlockSource.blocks l.fn.src) l.ranges given
      × HoldsDue (g.S.BlockSource.blocks l.fn.src) l.ranges l.fn.tree.form.sums (map bare_item given) l.pass.due.items;
}

abbrev pub decreases-loop-walker : goal.decreases-loop-walker
decreases-loop-walker g l = fuel l.walker
