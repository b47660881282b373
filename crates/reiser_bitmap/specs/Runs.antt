-- Maximal runs of numbers that pass a test.
use Rattle.std.specs.Prelude.{◌≡◌, ℕ, ◌+◌, ◌-◌, ◌≤◌, ◌<◌, nat_lt, Bool, true, false, not, ◌&&◌, List, length, map, filter, take_while, All, AllPairs, Any}
use Rattle.std.specs.List.{range_with_len}
use Rattle.reiser_bitmap.specs.declared.runs.Run.{Run}
use Rattle.reiser_bitmap.specs.Units.{is_free_unit, unit_count}

-- a number of the run
abbrev pub IsInRun : Run → ℕ → Type 0
IsInRun r u = (r.first ≤ u) × (u < r.first + r.count)

-- each number of the run passes, and none before it or behind it does
pub record IsMaximalRun (passes : ℕ → Bool) (r : Run) : Type 0 where
  pub not_empty : 0 < r.count
  pub all : (u : ℕ) → IsInRun r u → passes u ≡ true
  pub before : (u : ℕ) → u + 1 ≡ r.first → passes u ≡ false
  pub behind : passes (r.first + r.count) ≡ false

-- the runs are maximal and ascend, and each number that passes lies in one
pub record AreMaximalRuns (passes : ℕ → Bool) (runs : List Run) : Type 0 where
  pub each : All (IsMaximalRun passes) runs
  pub ascending : AllPairs (λ r s. r.first + r.count < s.first) runs
  pub whole : (u : ℕ) → passes u ≡ true → Any (λ r. IsInRun r u) runs

-- a run begins at a number that passes where the one before does not
abbrev pub begins_run : (ℕ → Bool) → ℕ → Bool
begins_run passes u = passes u && not (nat_lt 0 u && passes (u - 1))

-- the run from a number on, up to n at most
abbrev pub run_from : (ℕ → Bool) → ℕ → ℕ → Run
run_from passes n u = record { first = u; count = length (take_while passes (range_with_len u (n - u))) }

-- the maximal runs among the numbers below n
unfoldable pub maximal_runs : (ℕ → Bool) → ℕ → List Run
maximal_runs passes n = map (run_from passes n) (filter (begins_run passes) (range_with_len 0 n))

-- the maximal runs of free units
unfoldable pub free_runs : List Bool → List Run
free_runs used = maximal_runs (is_free_unit used) (unit_count used)
