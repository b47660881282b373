use Rattle.reiser_volume_contents.proofs.Imports.{◌≡◌, ℕ, ◌≤◌, List, IsTrue, Image, ReiserItem, Reads, StandsFrom, fuel}
use Rattle.reiser_volume_contents.proofs.object_items.ObjectItems.advance.Given as goal

abbrev pub invariant-loop-self : goal.invariant-loop-self
invariant-loop-self g l = record {
  kept : g.S.BlockSource.kept l.fn.src l.src;
  same : g.S.BlockSource.faults l.src ≡ g.S.BlockSource.faults l.fn.src;
  key : l.self.key ≡ l.fn.self.key;
  fewer : fuel l.leaves l.self ≤ fuel l.leaves l.fn.self;
  reads : IsTrue g.S.BlockSource.tells → (image : Image) → g.S.BlockSource.blocks l.fn.src ≡ image → (given items : List ReiserItem) → Reads l.fn.self l.leaves image given items → Reads l.self l.leaves image given items;
  from : (first : ℕ) → StandsFrom first l.leaves l.fn.self → StandsFrom first l.leaves l.self;
}

abbrev pub decreases-loop-self : goal.decreases-loop-self
decreases-loop-self g l = fuel l.leaves l.self
