use Rattle.reiser_super.proofs.Imports.{◌≡◌, [], map, IsTrue, filter, range_with_len, is_descriptor, log_block}
use Rattle.reiser_super.proofs.journal.look_at_log.Given as goal

abbrev pub invariant-loop-place : goal.invariant-loop-place
invariant-loop-place g l = record {
  kept : g.S.BlockSource.kept l.initial.src l.src;
  same : g.S.BlockSource.faults l.src ≡ g.S.BlockSource.faults l.initial.src;
  none : IsTrue g.S.BlockSource.tells → filter is_descriptor (map (log_block l.sup (g.S.BlockSource.blocks l.initial.src)) (range_with_len 0 l.place)) ≡ [];
}
