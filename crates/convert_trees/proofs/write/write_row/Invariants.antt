use Rattle.convert_trees.proofs.Imports.{◌≡◌, List, map, take, IsTrue, Image, reads, WritesOnly, IsSlotRow, LieApart, AreChunks, PlannedChunk, first_items, AddsRow, FitRow, HasPlacedPieces, IsInPieces, IsUsedBlock, slot_behind}
use Rattle.convert_trees.proofs.Behind.{IsInRest}
use Rattle.convert_trees.proofs.write.write_row.Given as goal

abbrev pub invariant-loop-tree : goal.invariant-loop-tree
invariant-loop-tree g l = record {
  is_row : IsSlotRow l.row;
  same : (l.row.form ≡ l.initial.row.form) × (l.row.slots ≡ l.initial.row.slots);
  taken : l.row.taken ≡ slot_behind l.initial.row.taken l.placed;
  trees : map (λ p. p.tree) l.placed ≡ take l.tree-index l.trees;
  open_ : g.D.Disk.opened l.disk ≡ g.D.Disk.opened l.initial.disk;
  size : g.D.BlockSource.size l.disk ≡ g.D.BlockSource.size l.initial.disk;
  borrow : g.D.Disk.borrow l.disk ≡ g.D.Disk.borrow l.initial.disk;
  faults : g.D.BlockSource.faults l.disk ≡ g.D.BlockSource.faults l.initial.disk;
  only : IsTrue g.D.BlockSource.tells → WritesOnly (λ b _. IsInRest l.initial.row b) (g.D.Disk.history l.initial.disk) (g.D.Disk.history l.disk);
  stand : IsTrue g.D.BlockSource.tells → (other : Image) → g.D.BlockSource.blocks l.initial.disk ≡ other → (chunks : List PlannedChunk) → AreChunks l.w.plan.now l.w.volume.now.sup.blocks chunks
      → HasPlacedPieces l.w.volume.now (g.P.PieceList.pieces l.w.pieces.now) other → LieApart (IsUsedBlock l.w.volume.now) l.initial.row.form.nodesize l.initial.row.slots
      → LieApart (IsInPieces (g.P.PieceList.pieces l.w.pieces.now)) l.initial.row.form.nodesize l.initial.row.slots
      → FitRow l.initial.row (first_items l.w.volume.now (g.P.PieceList.pieces l.w.pieces.now) l.w.options.now l.w.form.ids l.w.time chunks other) l.trees
      → AddsRow (reads (g.D.Disk.history l.disk)) l.initial.row l.row (first_items l.w.volume.now (g.P.PieceList.pieces l.w.pieces.now) l.w.options.now l.w.form.ids l.w.time chunks other) l.placed;
}
