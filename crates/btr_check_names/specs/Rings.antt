-- Ways up from directories, by their places in a list.
use Rattle.std.specs.Prelude.{◌≡◌, ◌≢◌, ◌≤◌, ◌<◌, ◌⊎◌, ℕ, ◌+◌, List, length, slice_index, slice_get, Option, Some, None, All, IfSome}

-- The way up from a place comes to one that stands in no other.
pub data Ends (above : List (Option ℕ)) : ℕ → Type 0 where
  top : (i : ℕ) → slice_get above i ≡ Some None → Ends above i
  under : (i j : ℕ) → slice_get above i ≡ Some (Some j) → Ends above j → Ends above i

-- The way up from a place leads there, in one step or more.
pub data Leads (above : List (Option ℕ)) : ℕ → Option ℕ → Type 0 where
  one : (i : ℕ) (o : Option ℕ) → slice_get above i ≡ Some o → Leads above i o
  more : (i j : ℕ) (o : Option ℕ) → slice_get above i ≡ Some (Some j) → Leads above j o → Leads above i o

abbrev pub IsPlace : ℕ → Option ℕ → Type 0
IsPlace count o = IfSome o (λ i. i < count)

-- Each place that was met on one of so many ways ends. The number of its way is kept for it, and 0 where it was not met.
abbrev pub AreEnded : List (Option ℕ) → List ℕ → ℕ → Type 0
AreEnded above met ways = (i : ℕ) → i < length above → slice_index met i ≢ 0 → (slice_index met i ≤ ways) × Ends above i

-- The same while one more way is gone, which has come to a place.
abbrev pub AreOnWay : List (Option ℕ) → List ℕ → ℕ → Option ℕ → Type 0
AreOnWay above met ways at = (i : ℕ) → i < length above → slice_index met i ≢ 0 → ((slice_index met i ≤ ways) × Ends above i) ⊎ ((slice_index met i ≡ ways + 1) × Leads above i at)

-- the first one is where the way begins, or was met
abbrev pub IsBegun : List ℕ → ℕ → Option ℕ → Type 0
IsBegun met start at = (at ≡ Some start) ⊎ (slice_index met start ≢ 0)
