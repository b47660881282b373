-- What a text that is gathered, and the sink behind it, have after more was added.
use Rattle.std.specs.Prelude.{◌≡◌, ℕ, ◌≤◌, List, ◌++◌, length, take, Result}
use Rattle.std.specs.Result.{MatchResult}

-- what the sink took and what waits are what they were, and then these bytes
pub record Pushed (took waiting bytes now_took now_waiting : List ℕ) : Type 0 where
  pub grows : length took ≤ length now_took
  pub all : now_took ++ now_waiting ≡ (took ++ waiting) ++ bytes

-- the sink failed, and took a first part of that
pub record Stopped (took waiting bytes now_took : List ℕ) : Type 0 where
  pub grows : length took ≤ length now_took
  pub part : (k : ℕ) × (now_took ≡ take k ((took ++ waiting) ++ bytes))

abbrev pub Pushes : {T E : Type 0} → List ℕ → List ℕ → List ℕ → Result T E → List ℕ → List ℕ → Type 0
Pushes took waiting bytes result now_took now_waiting =
    MatchResult result (λ _. Pushed took waiting bytes now_took now_waiting) (λ _. Stopped took waiting bytes now_took)
