use Rattle.trial_core.proofs.Imports.{◌≡◌, ◌<◌, ℕ, true, slice_index, range_with_len, Marks, OverTold, block_at, has, numbered}
use Rattle.std.proofs.Common.{filter}
use Rattle.trial_core.proofs.marks.read_mark.Given as goal

abbrev pub invariant-loop-b : goal.invariant-loop-b
invariant-loop-b g l = record {
  kept : g.S.BlockSource.kept l.initial.src l.src;
  same : g.S.BlockSource.faults l.src ≡ g.S.BlockSource.faults l.initial.src;
  marks : OverTold g.S.BlockSource.tells (g.S.BlockSource.blocks l.initial.src) (λ image. Marks l.marker (numbered image (filter (has l.fn.used) (range_with_len 0 l.b))));
  bytes : OverTold g.S.BlockSource.tells (g.S.BlockSource.blocks l.initial.src) (λ image. (b : ℕ) → b < l.b → has l.fn.used b ≡ true → (i : ℕ) → slice_index (block_at image b) i < 256);
}
