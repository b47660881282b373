-- Sums by key.
use Rattle.std.specs.Prelude.{ℕ, ◌-◌, ◌^◌, min, Bool, unwrap_or}
use Rattle.indexmap.specs.IndexMap.{IndexMap, get}

-- the sum that a map has for a key
abbrev pub tally : {K S : Type 0} → (K → K → Bool) → IndexMap K ℕ S → K → ℕ
tally eq m key = unwrap_or (get eq m key) 0

-- a sum of 64 bits, which stays at its last value
abbrev pub capped : ℕ → ℕ
capped n = min n (2 ^ 64 - 1)
