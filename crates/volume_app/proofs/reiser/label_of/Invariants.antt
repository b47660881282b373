use Rattle.volume_app.proofs.Imports.{◌≡◌, ◌-◌, ◌<◌, ◌≤◌, ℕ, get_or}
use Rattle.volume_app.proofs.reiser.label_of.Given as goal

abbrev pub invariant-loop-end : goal.invariant-loop-end
invariant-loop-end l = record {
  within : l.end ≤ 16;
  before : (k : ℕ) → k < l.end → get_or l.label k 0 ≡ 0 → ⊥;
}

abbrev pub decreases-loop-end : goal.decreases-loop-end
decreases-loop-end l = 16 - l.end
