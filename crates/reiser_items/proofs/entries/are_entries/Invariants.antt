use Rattle.reiser_items.proofs.Imports.{◌≡◌, ℕ, ◌<◌, ◌≤◌, length, IsEntry, area_end}
use Rattle.reiser_items.proofs.entries.are_entries.Given as goal

abbrev pub invariant-loop-i : goal.invariant-loop-i
invariant-loop-i l = record {
  end_ : l.end ≡ area_end l.body l.i;
  within : l.end ≤ length l.body;
  each : (k : ℕ) → k < l.i → IsEntry l.count l.body k;
}
