use Rattle.reiser_volume_objects.proofs.Imports.{◌≡◌, List, length, IsTrue, false, ReiserItem, Walks, fuel, block_count, tree_at, HasNoted}
use Rattle.reiser_volume_objects.proofs.table.Objects.walk.Given as goal

abbrev pub invariant-loop-objects : goal.invariant-loop-objects
invariant-loop-objects g l = record {
  kept : g.S.BlockSource.kept l.fn.src l.src;
  same : g.S.BlockSource.faults l.src ≡ g.S.BlockSource.faults l.fn.src;
  tree : l.walker.tree ≡ tree_at l.root l.height l.journal_first l.journal_size;
  size : block_count l.walker ≡ length l.map;
  unspent : l.walker.spent ≡ false;
  walks : IsTrue g.S.BlockSource.tells → (given : List ReiserItem) × Walks l.walker (g.S.BlockSource.blocks l.fn.src) l.map given × HasNoted l.objects given;
}

abbrev pub decreases-loop-objects : goal.decreases-loop-objects
decreases-loop-objects g l = fuel l.walker
