use Rattle.btr_reader_walk.proofs.Imports.{◌≡◌, ◌*◌, length, take, IsTrue, blocks_at}
use Rattle.btr_reader_walk.proofs.blocks.read_blocks.Given as goal

abbrev pub invariant-loop-i : goal.invariant-loop-i
invariant-loop-i g l = record {
  kept : g.S.BlockSource.kept l.initial.src l.src;
  same : g.S.BlockSource.faults l.src ≡ g.S.BlockSource.faults l.initial.src;
  size : length l.buffer.items ≡ length l.initial.buffer.items;
  read : IsTrue g.S.BlockSource.tells → take (4096 * l.i) l.buffer.items ≡ blocks_at (g.S.BlockSource.blocks l.initial.src) l.ranges l.i l.address;
}
