use Rattle.btr_tree_writer.proofs.Imports.{◌≡◌, ◌*◌, ◌-◌, ◌++◌, ℕ, List, length, IsTrue, Image, reads, WritesOnly, Item, capacity, IsInSlots, LieApart, read_form, WritesTree, StandsOn}
use Rattle.btr_tree_writer.proofs.write.write_tree_at.Given as goal

abbrev pub invariant-loop-writer : goal.invariant-loop-writer
invariant-loop-writer g l = record {
  open_ : g.D.Disk.opened l.disk ≡ g.D.Disk.opened l.initial.disk;
  size : g.D.BlockSource.size l.disk ≡ g.D.BlockSource.size l.initial.disk;
  borrow : g.D.Disk.borrow l.disk ≡ g.D.Disk.borrow l.initial.disk;
  same : g.D.BlockSource.faults l.disk ≡ g.D.BlockSource.faults l.initial.disk;
  only : IsTrue g.D.BlockSource.tells → WritesOnly (λ b _. IsInSlots l.fn.form.nodesize l.fn.slots.offsets b) (g.D.Disk.history l.initial.disk) (g.D.Disk.history l.disk);
  live : g.I.ItemSource.is_live l.items;
  reach : g.I.ItemSource.reach l.items ≡ g.I.ItemSource.reach l.initial.items;
  needs : (b : ℕ) → g.I.ItemSource.needs l.items b → g.I.ItemSource.needs l.initial.items b;
  chunk_tree : l.writer.builder.made.chunk_tree ≡ l.fn.form.ids.chunk_tree;
  items : List Item;
  writes : WritesTree l.writer (read_form l.fn.form) l.fn.generation l.owner l.fn.slots items;
  stands : IsTrue g.D.BlockSource.tells → StandsOn l.writer (reads (g.D.Disk.history l.disk)) items;
  ahead : IsTrue g.D.BlockSource.tells → (image : Image) → g.D.BlockSource.blocks l.initial.disk ≡ image → g.I.ItemSource.fits l.initial.items image → LieApart (g.I.ItemSource.needs l.initial.items) l.fn.form.nodesize l.fn.slots.offsets
      → g.I.ItemSource.fits l.items (g.D.BlockSource.blocks l.disk) × (items ++ g.I.ItemSource.ahead l.items (g.D.BlockSource.blocks l.disk) ≡ g.I.ItemSource.ahead l.initial.items image);
}

abbrev pub decreases-loop-writer : goal.decreases-loop-writer
decreases-loop-writer g l = capacity l.fn.form.nodesize * length l.fn.slots.addresses - l.writer.counter.bytes
