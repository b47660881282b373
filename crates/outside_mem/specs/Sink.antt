-- What a sink in memory is seen as.
use Rattle.std.specs.Prelude.{◌≡◌, ◌⊎◌, ℕ, List, [], ◌++◌, true, false}
use Rattle.outside_mem.specs.Failures.{Failures, no_failures, fails_next, counted, one_more}

-- the bytes that it took, which calls fail, and two counts: of calls that failed, and of those that found no memory
pub record Taken : Type 0 where
  pub bytes : List ℕ
  pub failures : Failures
  pub faults : ℕ
  pub refused : ℕ

-- a sink that took nothing yet and fails nowhere
abbrev pub empty : Taken
empty = record { bytes = []; failures = no_failures; faults = 0; refused = 0 }

-- a call was made that took all the bytes
abbrev pub after_write : Taken → List ℕ → Taken
after_write s bytes = record s { bytes = s.bytes ++ bytes; failures = counted s.failures }

-- a call was made that failed as it was listed
abbrev pub after_failure : Taken → Taken
after_failure s = record s { failures = counted s.failures; faults = one_more s.faults }

-- a call was made that found no memory
abbrev pub after_refusal : Taken → Taken
after_refusal s = record s { failures = counted s.failures; faults = one_more s.faults; refused = one_more s.refused }

-- a call failed, and took nothing: exactly where it was listed, or where it found no memory
abbrev pub Fails : Taken → Taken → Type 0
Fails old new =
    ((fails_next old.failures ≡ true) × (new ≡ after_failure old)) ⊎ ((fails_next old.failures ≡ false) × (new ≡ after_refusal old))
