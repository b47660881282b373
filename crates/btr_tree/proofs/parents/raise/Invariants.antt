use Rattle.btr_tree.proofs.Imports.{◌≡◌, ◌-◌, length, take, IsTrue, reads, WritesOnly, Goes, IsLater, taken, IsInSlots}
use Rattle.btr_tree.proofs.RaisingLoop.{IsRaising}
use Rattle.btr_tree.proofs.parents.raise.Given as goal

abbrev pub invariant-loop-start : goal.invariant-loop-start
invariant-loop-start g l = record {
  open_ : g.D.Disk.opened l.disk ≡ g.D.Disk.opened l.initial.disk;
  size : g.D.BlockSource.size l.disk ≡ g.D.BlockSource.size l.initial.disk;
  borrow : g.D.Disk.borrow l.disk ≡ g.D.Disk.borrow l.initial.disk;
  same : g.D.BlockSource.faults l.disk ≡ g.D.BlockSource.faults l.initial.disk;
  later : IsLater l.initial.nodes l.nodes;
  only : IsTrue g.D.BlockSource.tells → WritesOnly (λ b _. IsInSlots l.initial.nodes.form.nodesize (take (taken l.nodes) l.initial.nodes.offsets) b) (g.D.Disk.history l.initial.disk) (g.D.Disk.history l.disk);
  goes : Goes g.D.BlockSource.tells (reads (g.D.Disk.history l.initial.disk)) (reads (g.D.Disk.history l.disk)) l.initial.nodes l.nodes (λ m n. IsRaising m l.children l.level n l.parents.items l.start);
}

abbrev pub decreases-loop-start : goal.decreases-loop-start
decreases-loop-start g l = length l.children - l.start
