use Rattle.btr_tree.proofs.Imports.{◌≡◌, ◌/◌, length, IsTrue, reads, WritesOnly, IsInNode, HoldBytes}
use Rattle.btr_tree.proofs.write.write_node.Given as goal

abbrev pub invariant-loop-j : goal.invariant-loop-j
invariant-loop-j g l = record {
  open_ : g.D.Disk.opened l.disk ≡ g.D.Disk.opened l.initial.disk;
  size : g.D.BlockSource.size l.disk ≡ g.D.BlockSource.size l.initial.disk;
  borrow : g.D.Disk.borrow l.disk ≡ g.D.Disk.borrow l.initial.disk;
  same : g.D.BlockSource.faults l.disk ≡ g.D.BlockSource.faults l.initial.disk;
  only : IsTrue g.D.BlockSource.tells → WritesOnly (λ b _. IsInNode (length l.bytes) l.offset b) (g.D.Disk.history l.initial.disk) (g.D.Disk.history l.disk);
  written : IsTrue g.D.BlockSource.tells → HoldBytes (reads (g.D.Disk.history l.disk)) (l.offset / 4096) l.j l.bytes;
}
