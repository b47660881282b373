use Rattle.reiser_volume_contents.proofs.Imports.{◌≡◌, ℕ, List, [], IsTrue, Image, ReiserItem, tail_block, AreFileItems, Reads, StandsFrom, fuel}
use Rattle.reiser_volume_contents.proofs.tail.gather_items.Given as goal

abbrev pub invariant-loop-into : goal.invariant-loop-into
invariant-loop-into g l = record {
  kept : g.S.BlockSource.kept l.fn.src l.src;
  same : g.S.BlockSource.faults l.src ≡ g.S.BlockSource.faults l.fn.src;
  told : IsTrue g.S.BlockSource.tells → (image : Image) → g.S.BlockSource.blocks l.fn.src ≡ image → (all : List ReiserItem) → AreFileItems (g.S.BlockSource.size l.fn.src) all → Reads l.fn.items l.leaves image [] all
      → (given : List ReiserItem) × Reads l.items l.leaves image given all × (l.into.bytes ≡ tail_block given l.size l.k);
  from : (first : ℕ) → StandsFrom first l.leaves l.fn.items → StandsFrom first l.leaves l.items;
}

abbrev pub decreases-loop-into : goal.decreases-loop-into
decreases-loop-into g l = fuel l.leaves l.items
