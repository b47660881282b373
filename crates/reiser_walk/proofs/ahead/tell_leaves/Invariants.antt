use Rattle.reiser_walk.proofs.Imports.{◌≡◌}
use Rattle.reiser_walk.proofs.ahead.tell_leaves.Given as goal

abbrev pub invariant-loop-level : goal.invariant-loop-level
invariant-loop-level g l = record {
  kept : g.S.BlockSource.kept l.initial.src l.src;
  same : g.S.BlockSource.faults l.src ≡ g.S.BlockSource.faults l.initial.src;
}
