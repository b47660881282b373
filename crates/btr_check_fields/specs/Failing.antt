-- Where a clause of a sound volume fails.
use Rattle.std.specs.Prelude.{◌≡◌, ◌⊎◌, ◌<◌, ℕ, Bool, false, List, length, Option, Some, None, Contains, map, slice_index_or}
use Rattle.std.specs.List.{flat_map}
use Rattle.btr_check_rules.specs.btr_reader.declared.chunk.ChunkAt.{ChunkAt}
use Rattle.btr_check_rules.specs.Groups.{Apart, chunk_span, stripe_spans}
use Rattle.btr_check_rules.specs.declared.span.Span.{Span}

-- one of these stands at an address, and P does not hold of it
abbrev pub FailsOf : {A : Type 0} → (A → ℕ) → (A → Type 0) → List A → ℕ → Type 0
FailsOf {A} at P xs a = (x : A) × Contains xs x × (at x ≡ a) × ¬ P x

-- the same of a test
abbrev pub FailsTest : {A : Type 0} → (A → ℕ) → (A → Bool) → List A → ℕ → Type 0
FailsTest {A} at test xs a = (x : A) × Contains xs x × (at x ≡ a) × (test x ≡ false)

-- two of these, in their order, of which one stands at an address, and P does not hold of them
abbrev pub FailsOfTwo : {A : Type 0} → (A → ℕ) → (A → A → Type 0) → List A → ℕ → Type 0
FailsOfTwo {A} at P xs a =
    (i : ℕ) × (j : ℕ) × (d : A) × (i < j) × (j < length xs) × ((at (slice_index_or xs i d) ≡ a) ⊎ (at (slice_index_or xs j d) ≡ a))
    × ¬ P (slice_index_or xs i d) (slice_index_or xs j d)

abbrev pub start_of : Span → ℕ
start_of s = s.start

-- two chunks overlap where one of them begins, by its address or on the device
abbrev pub Overlaps : List ChunkAt → ℕ → Type 0
Overlaps chunks a = FailsOfTwo start_of Apart (map chunk_span chunks) a ⊎ FailsOfTwo start_of Apart (flat_map stripe_spans chunks) a

-- the first of two answers, or the second where that is none
abbrev pub first_found : Option ℕ → Option ℕ → Option ℕ
first_found None second = second
first_found (Some a) second = Some a

-- an answer: all holds, or this fails at the address
abbrev pub Answers : Type 0 → (ℕ → Type 0) → Option ℕ → Type 0
Answers holds fails None = holds
Answers holds fails (Some a) = fails a
