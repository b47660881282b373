use Rattle.btr_tree_writer_tests.proofs.Imports.{◌≡◌, ◌≤◌, false, map, IsTrue, range_with_len, Holds, IsSameBuilding, Stands, numbered_item}
use Rattle.outside.specs.History.{reads}
use Rattle.btr_tree_writer_tests.proofs.building.push_numbered.Given as goal

abbrev pub invariant-loop-number : goal.invariant-loop-number
invariant-loop-number g l = record {
  within : l.number ≤ l.count;
  unspent : l.tree.spent ≡ false;
  going : l.tree.done ≡ false;
  stands : IsTrue g.D.BlockSource.tells → Stands l.tree (reads (g.D.Disk.history l.disk));
  holds : Holds l.tree (map (numbered_item l.body) (range_with_len 0 l.number));
  same : IsSameBuilding l.fn.tree l.tree;
  open_ : g.D.Disk.opened l.disk ≡ g.D.Disk.opened l.fn.disk;
  size : g.D.BlockSource.size l.disk ≡ g.D.BlockSource.size l.fn.disk;
}
