use Rattle.rollback_core.proofs.Imports.{◌-◌, ◌≡◌, ◌≤◌, ◌<◌, ◌==◌, not, true, All, map, filter, length, OverTold, block_at, is_reserved, has}
use Rattle.rollback_core.proofs.Marked.{used_below}
use Rattle.rollback_core.proofs.saved.read_reserved.Given as goal

abbrev pub invariant-loop-at : goal.invariant-loop-at
invariant-loop-at g l = record {
  inside : l.at ≤ l.end;
  all : l.end ≡ length l.used;
  marked : l.at < l.end → has l.used l.at ≡ true;
  kept : g.S.BlockSource.kept l.initial.src l.src;
  same : g.S.BlockSource.faults l.src ≡ g.S.BlockSource.faults l.initial.src;
  numbers : map (λ s. s.at) l.saved.items ≡ filter (λ b. not (b == 16)) (filter (λ b. is_reserved b (length l.used)) (used_below l.used l.at));
  blocks : OverTold g.S.BlockSource.tells (g.S.BlockSource.blocks l.initial.src) (λ image. All (λ s. s.block.bytes ≡ block_at image s.at) l.saved.items);
}

abbrev pub decreases-loop-at : goal.decreases-loop-at
decreases-loop-at g l = l.end - l.at
