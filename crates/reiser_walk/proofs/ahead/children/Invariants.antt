use Rattle.reiser_walk.proofs.Imports.{◌≡◌}
use Rattle.reiser_walk.proofs.ahead.children.Given as goal

abbrev pub invariant-loop-node : goal.invariant-loop-node
invariant-loop-node g l = record {
  kept : g.S.BlockSource.kept l.initial.src l.src;
  same : g.S.BlockSource.faults l.src ≡ g.S.BlockSource.faults l.initial.src;
}
