-- Sets of numbers, as runs of them.
use Rattle.std.specs.Prelude.{◌≡◌, ◌≤◌, ◌<◌, ℕ, ◌+◌, nat_le, Bool, true, false, ◌&&◌, List, Option, Some, None, All, AllPairs}
use Rattle.std.specs.List.{list_any}
use Rattle.number_runs.specs.declared.run.Run.{Run}

-- a number is one of a run
abbrev pub is_in : Run → ℕ → Bool
is_in r n = nat_le r.first n && nat_le n r.last

-- a number is one of these runs
abbrev pub is_among : List Run → ℕ → Bool
is_among runs n = list_any (λ r. is_in r n) runs

abbrev pub first_of : Run → ℕ
first_of r = r.first

-- a run has a number
abbrev pub HasNumbers : Run → Type 0
HasNumbers r = r.first ≤ r.last

-- a run ends below another, and there is a number between them
abbrev pub EndsBelow : Run → Run → Type 0
EndsBelow r s = r.last + 1 < s.first

-- runs that ascend, and do not touch
pub record AreParted (runs : List Run) : Type 0 where
  pub some : All HasNumbers runs
  pub apart : AllPairs EndsBelow runs

-- the first number with a property; none where no number has it
abbrev pub IsFirst : (ℕ → Bool) → Option ℕ → Type 0
IsFirst has None = (n : ℕ) → has n ≡ false
IsFirst has (Some n) = (has n ≡ true) × ((m : ℕ) → m < n → has m ≡ false)

-- Of a set this is the run of a number, or else the next run: it holds numbers of the set alone, up to where one is missing,
-- and no number of the set stands between.
pub record IsRunFrom (has : ℕ → Bool) (n : ℕ) (r : Run) : Type 0 where
  pub behind : (n ≤ r.last) × (r.first ≤ r.last)
  pub between : (m : ℕ) → n ≤ m → m < r.first → has m ≡ false
  pub all : (m : ℕ) → r.first ≤ m → m ≤ r.last → has m ≡ true
  pub ends : has (r.last + 1) ≡ false

abbrev pub StandsFrom : (ℕ → Bool) → ℕ → Option Run → Type 0
StandsFrom has n None = (m : ℕ) → n ≤ m → has m ≡ false
StandsFrom has n (Some r) = IsRunFrom has n r
