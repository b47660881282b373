use Rattle.std.proofs.Common.{◌≡◌, length, None}
use Rattle.volume_samples.proofs.volume.without_tree.Given as goal

abbrev pub invariant-loop-n : goal.invariant-loop-n
invariant-loop-n l = record {
  size : length l.disk.history.start ≡ l.fn.blocks;
  closed : l.disk.opened ≡ None;
}
