-- What an answer says of a fault, and what a sink took.
use Rattle.std.specs.Prelude.{◌≡◌, ℕ, ◌+◌, ◌-◌, ◌^◌, ◌≤◌, min, List, ◌++◌, take, Result, Err, OnOk, OnErr}
use Rattle.std.specs.Result.{MatchResult}

-- a count rose, or stands at the last value of a u64
abbrev pub Rose : ℕ → ℕ → Type 0
Rose before now = min (before + 1) (2 ^ 64 - 1) ≤ now

-- The count of faults never falls. A fault is answered where it rose, and nowhere else.
pub record HasCause {T E : Type 0} (before now : ℕ) (result : Result T E) : Type 0 where
  pub later : before ≤ now
  pub failed : OnErr result (Rose before now)
  pub kept : OnOk result (now ≡ before)

-- The same where other answers may come too: this one comes where the count rose, and every other leaves the count.
pub record HasCauseOf {T E : Type 0} (fault : E) (before now : ℕ) (result : Result T E) : Type 0 where
  pub later : before ≤ now
  pub failed : result ≡ Err fault → Rose before now
  pub kept : ¬ (result ≡ Err fault) → now ≡ before

-- all the bytes were appended, or after a fault some first ones
abbrev pub Takes : {T E : Type 0} → List ℕ → List ℕ → Result T E → List ℕ → Type 0
Takes old bytes result new = MatchResult result (λ _. new ≡ old ++ bytes) (λ _. (k : ℕ) × (new ≡ old ++ take k bytes))
