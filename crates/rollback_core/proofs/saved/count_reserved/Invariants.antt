use Rattle.rollback_core.proofs.Imports.{◌-◌, ◌≡◌, ◌≤◌, ◌<◌, true, filter, length, is_reserved, has}
use Rattle.rollback_core.proofs.Marked.{used_below}
use Rattle.rollback_core.proofs.saved.count_reserved.Given as goal

abbrev pub invariant-loop-at : goal.invariant-loop-at
invariant-loop-at l = record {
  inside : l.at ≤ l.end;
  all : l.end ≡ length l.used;
  marked : l.at < l.end → has l.used l.at ≡ true;
  few : l.count ≤ l.at;
  counted : l.count ≡ length (filter (λ b. is_reserved b (length l.used)) (used_below l.used l.at));
}

abbrev pub decreases-loop-at : goal.decreases-loop-at
decreases-loop-at l = l.end - l.at
