use Rattle.btr_reader.proofs.Imports.{◌≡◌, [], List, false, IsTrue, TreeItem, Walks, LieOn, fuel, with_items, items_refusals}
use Rattle.btr_reader.proofs.chunk_tree.read_chunks.Given as goal

abbrev pub invariant-loop-walker : goal.invariant-loop-walker
invariant-loop-walker g l = record {
  kept : g.S.BlockSource.kept l.fn.src l.src;
  same : g.S.BlockSource.faults l.src ≡ g.S.BlockSource.faults l.fn.src;
  tree : l.walker.tree ≡ l.fn.tree;
  fresh : l.walker.spent ≡ false;
  inside : LieOn l.device l.ranges.items;
  walks : IsTrue g.S.BlockSource.tells → (given : List TreeItem) × Walks l.walker (g.S.BlockSource.blocks l.fn.src) l.first given × (l.ranges.items ≡ with_items l.boot l.first given) × (items_refusals l.device l.boot l.first given ≡ []);
}

abbrev pub decreases-loop-walker : goal.decreases-loop-walker
decreases-loop-walker g l = fuel l.walker
