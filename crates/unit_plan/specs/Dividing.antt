-- How chunks are found, one after the other.
use Rattle.std.specs.Prelude.{◌≡◌, ◌≢◌, ℕ, ◌+◌, ◌-◌, ◌*◌, ◌%◌, ◌≤◌, ◌<◌, min, List, [], ◌∷◌, ◌++◌, Option, Some, None, MatchOption, AllPairs, All, Any}
use Rattle.unit_plan.specs.declared.chunk.PlannedChunk.{PlannedChunk}
use Rattle.unit_plan.specs.declared.chunk.Role.{Role}
use Rattle.unit_plan.specs.Chunks.{IsChunk, HoldsUnit}

-- a unit lies in one chunk with the unit before it
pub record IsJoined (role : ℕ → Option Role) (u : ℕ) : Type 0 where
  pub uncut : u % 1024 ≢ 0
  pub some : role (u - 1) ≢ None
  pub same : role (u - 1) ≡ role u

-- the chunk of the units from a first one to before an end
abbrev pub chunk_from : ℕ → ℕ → ℕ → Role → PlannedChunk
chunk_from usable first end role = record { start = 256 * first; length = min usable (256 * end) - 256 * first; role = role }

-- one chunk more, where the units have a role
abbrev pub IsWithChunk : List PlannedChunk → Option Role → ℕ → ℕ → ℕ → List PlannedChunk → Type 0
IsWithChunk old role first end usable new = MatchOption role (new ≡ old) (λ r. new ≡ old ++ chunk_from usable first end r ∷ [])

-- After a look at the units below u: those from first on are joined, and the chunks before them are found.
pub record AreBegun (role : ℕ → Option Role) (usable first u : ℕ) (chunks : List PlannedChunk) : Type 0 where
  pub each : All (IsChunk role usable) chunks
  pub ascending : AllPairs (λ c d. c.start + c.length ≤ d.start) chunks
  pub below : All (λ c. c.start + c.length ≤ 256 * first) chunks
  pub whole : (v : ℕ) (r : Role) → v < first → role v ≡ Some r → Any (λ c. HoldsUnit c v) chunks
  pub within : first < u
  pub joined : (v : ℕ) → first < v → v < u → IsJoined role v
  pub apart : IsJoined role first → ⊥
