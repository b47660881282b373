use Rattle.reiser_walk.proofs.Imports.{◌≡◌, ◌≤◌, List, IsTrue, Image, ReiserItem, Walks, IsDone, block_count, fuel}
use Rattle.reiser_walk.proofs.walker.Walker.step.Given as goal

abbrev pub invariant-loop-self : goal.invariant-loop-self
invariant-loop-self g l = record {
  kept : g.S.BlockSource.kept l.fn.src l.src;
  same : g.S.BlockSource.faults l.src ≡ g.S.BlockSource.faults l.fn.src;
  tree : l.self.tree ≡ l.fn.self.tree;
  size : block_count l.self ≡ block_count l.fn.self;
  spent : l.self.spent ≡ l.fn.self.spent;
  ends : fuel l.self ≤ fuel l.fn.self;
  again : IsDone l.fn.self → IsDone l.self × (l.src ≡ l.fn.src);
  walks : IsTrue g.S.BlockSource.tells → (image : Image) → g.S.BlockSource.blocks l.fn.src ≡ image → (given : List ReiserItem) → Walks l.fn.self image l.map given → Walks l.self image l.map given;
}

abbrev pub decreases-loop-self : goal.decreases-loop-self
decreases-loop-self g l = fuel l.self
