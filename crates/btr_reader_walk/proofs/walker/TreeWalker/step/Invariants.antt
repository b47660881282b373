use Rattle.btr_reader_walk.proofs.Imports.{◌≡◌, ◌≤◌, List, IsTrue, Image, TreeItem, Walks, fuel}
use Rattle.btr_reader_walk.proofs.walker.TreeWalker.step.Given as goal

abbrev pub invariant-loop-self : goal.invariant-loop-self
invariant-loop-self g l = record {
  kept : g.S.BlockSource.kept l.fn.src l.src;
  same : g.S.BlockSource.faults l.src ≡ g.S.BlockSource.faults l.fn.src;
  tree : l.self.tree ≡ l.fn.self.tree;
  kept_on : l.self.spent ≡ l.fn.self.spent;
  ends : fuel l.self ≤ fuel l.fn.self;
  walks : IsTrue g.S.BlockSource.tells → (image : Image) → g.S.BlockSource.blocks l.fn.src ≡ image → (given : List TreeItem) → Walks l.fn.self image l.ranges given → Walks l.self image l.ranges given;
}

abbrev pub decreases-loop-self : goal.decreases-loop-self
decreases-loop-self g l = fuel l.self
