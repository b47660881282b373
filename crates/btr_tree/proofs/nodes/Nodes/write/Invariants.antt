use Rattle.btr_tree.proofs.Imports.{◌≡◌, ℕ, ◌+◌, ◌<◌, List, [], ◌++◌, length, take, get_or, IsTrue, reads, WritesOnly, identity, node_at, StandAt, slot, taken, IsInSlots}
use Rattle.btr_tree.proofs.nodes.Nodes.write.Given as goal

abbrev pub invariant-loop-k : goal.invariant-loop-k
invariant-loop-k g l = record {
  open_ : g.D.Disk.opened l.disk ≡ g.D.Disk.opened l.initial.disk;
  size : g.D.BlockSource.size l.disk ≡ g.D.BlockSource.size l.initial.disk;
  borrow : g.D.Disk.borrow l.disk ≡ g.D.Disk.borrow l.initial.disk;
  same : g.D.BlockSource.faults l.disk ≡ g.D.BlockSource.faults l.initial.disk;
  only : IsTrue g.D.BlockSource.tells → WritesOnly (λ b _. IsInSlots l.self.form.nodesize (take (taken l.self) l.self.offsets) b) (g.D.Disk.history l.initial.disk) (g.D.Disk.history l.disk);
  written : IsTrue g.D.BlockSource.tells
      → (front : List (List ℕ)) → length front ≡ l.self.written → StandAt (reads (g.D.Disk.history l.initial.disk)) l.self.form.nodesize l.self.offsets front
      → (i : ℕ) → i < l.self.written + l.k → node_at (reads (g.D.Disk.history l.disk)) identity l.self.form.nodesize (slot l.self.offsets i) ≡ get_or (front ++ l.self.nodes) i [];
}
