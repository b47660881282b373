use Rattle.reiser_volume_contents.proofs.Imports.{◌≡◌, ℕ, List, [], IsTrue, Image, ReiserItem, MarksFile, AreFileItems, Reads, StandsFrom, fuel}
use Rattle.reiser_volume_contents.proofs.mark.mark_items.Given as goal

abbrev pub invariant-loop-marker : goal.invariant-loop-marker
invariant-loop-marker g l = record {
  kept : g.S.BlockSource.kept l.fn.src l.src;
  same : g.S.BlockSource.faults l.src ≡ g.S.BlockSource.faults l.fn.src;
  size : l.marker.file.size ≡ l.size;
  told : IsTrue g.S.BlockSource.tells → (image : Image) → g.S.BlockSource.blocks l.fn.src ≡ image → (all : List ReiserItem) → AreFileItems (g.S.BlockSource.size l.fn.src) all → Reads l.fn.items l.leaves image [] all
      → (given : List ReiserItem) × Reads l.items l.leaves image given all × MarksFile l.marker image given;
  from : (first : ℕ) → StandsFrom first l.leaves l.fn.items → StandsFrom first l.leaves l.items;
}

abbrev pub decreases-loop-marker : goal.decreases-loop-marker
decreases-loop-marker g l = fuel l.leaves l.items
