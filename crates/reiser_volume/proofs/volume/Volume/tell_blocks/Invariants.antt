use Rattle.reiser_volume.proofs.Imports.{◌≡◌}
use Rattle.reiser_volume.proofs.volume.Volume.tell_blocks.Given as goal

abbrev pub invariant-loop-i : goal.invariant-loop-i
invariant-loop-i g l = record {
  kept : g.S.BlockSource.kept l.initial.src l.src;
  same : g.S.BlockSource.faults l.src ≡ g.S.BlockSource.faults l.initial.src;
}
