use Rattle.convert_steps.proofs.Imports.{◌≡◌, IsTrue, Image, reads, WritesOnly, CanMove, IsMovedPlace}
use Rattle.convert_steps.proofs.Turning.{Held}
use Rattle.convert_steps.proofs.pieces.write_moved.Given as goal

abbrev pub invariant-loop-i : goal.invariant-loop-i
invariant-loop-i g l = record {
  open_ : g.D.Disk.opened l.disk ≡ g.D.Disk.opened l.initial.disk;
  size : g.D.BlockSource.size l.disk ≡ g.D.BlockSource.size l.initial.disk;
  borrow : g.D.Disk.borrow l.disk ≡ g.D.Disk.borrow l.initial.disk;
  same : g.D.BlockSource.faults l.disk ≡ g.D.BlockSource.faults l.initial.disk;
  only : IsTrue g.D.BlockSource.tells → WritesOnly (λ b _. IsMovedPlace (g.P.PieceList.pieces l.pieces) b) (g.D.Disk.history l.initial.disk) (g.D.Disk.history l.disk);
  held : IsTrue g.D.BlockSource.tells → (image : Image) → reads (g.D.Disk.history l.initial.disk) ≡ image → CanMove l.volume image (g.P.PieceList.pieces l.pieces)
      → Held l.volume image (reads (g.D.Disk.history l.disk)) (g.P.PieceList.pieces l.pieces) l.i;
}
