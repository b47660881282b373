-- Chunks that are valid and apart are so at each address.
use Rattle.btr_check_fields.proofs.Imports.{◌≡◌, ℕ, inl, inr, List, map, Option, Some, None, Result, Ok, Err, IfOk, sym, subst, AllPairs, flat_map, All-contains, Super, ChunkAt, Apart, AreChunksApart, IsChunkOn, chunk_span, stripe_spans, EachAt, PairsAt, Span, Answers, FailsOf, FailsOfTwo, Overlaps, first_found, start_of}
use Rattle.std.specs.List.{All}

pub fails_at : {A : Type 0} (at : A → ℕ) (P : A → Type 0) (xs : List A) (a : ℕ) → FailsOf at P xs a → ¬ EachAt at a P xs
fails_at at P xs a (x, h, is, not_so) each = not_so (All-contains (λ y. at y ≡ a → P y) xs x each h is)

pub two_fail_at : {A : Type 0} (at : A → ℕ) (P : A → A → Type 0) (xs : List A) (a : ℕ) → FailsOfTwo at P xs a → ¬ PairsAt at a P xs
two_fail_at at P xs a (i, j, d, less, low, here, not_so) pairs = not_so (pairs i j d less low here)

pub all_apart : (s : Super) (chunks : List ChunkAt) → All (IsChunkOn s) chunks → AllPairs Apart (map chunk_span chunks) → AllPairs Apart (flat_map stripe_spans chunks) → (a : ℕ) → AreChunksApart s chunks a
all_apart s chunks valid logical physical = λ a. record {
  valid = λ k d low at. valid k d low;
  logical = λ i j d less low here. logical i j d less low;
  physical = λ i j d less low here. physical i j d less low;
}

pub invalid_fails : (s : Super) (chunks : List ChunkAt) (a : ℕ) → FailsOf (λ (c : ChunkAt). c.logical) (IsChunkOn s) chunks a → ¬ AreChunksApart s chunks a
invalid_fails s chunks a fails are = fails_at (λ (c : ChunkAt). c.logical) (IsChunkOn s) chunks a fails are.valid

pub logical_fails : (s : Super) (chunks : List ChunkAt) (a : ℕ) → FailsOfTwo start_of Apart (map chunk_span chunks) a → ¬ AreChunksApart s chunks a
logical_fails s chunks a fails are = two_fail_at start_of Apart (map chunk_span chunks) a fails are.logical

pub physical_fails : (s : Super) (chunks : List ChunkAt) (a : ℕ) → FailsOfTwo start_of Apart (flat_map stripe_spans chunks) a → ¬ AreChunksApart s chunks a
physical_fails s chunks a fails are = two_fail_at start_of Apart (flat_map stripe_spans chunks) a fails are.physical

pub overlap_fails : (s : Super) (chunks : List ChunkAt) (a : ℕ) → Overlaps chunks a → ¬ AreChunksApart s chunks a
overlap_fails s chunks a (inl fails) = logical_fails s chunks a fails
overlap_fails s chunks a (inr fails) = physical_fails s chunks a fails

abbrev Apart2 : List ChunkAt → Type 0
Apart2 chunks = AllPairs Apart (map chunk_span chunks) × AllPairs Apart (flat_map stripe_spans chunks)

-- what is answered where each chunk is valid
answers_apart : (s : Super) (chunks : List ChunkAt) (found : Option ℕ) → All (IsChunkOn s) chunks → Answers (Apart2 chunks) (Overlaps chunks) found
    → Answers ((a : ℕ) → AreChunksApart s chunks a) (λ a. ¬ AreChunksApart s chunks a) found
answers_apart s chunks None valid apart = all_apart s chunks valid apart.0 apart.1
answers_apart s chunks (Some a) valid fails = overlap_fails s chunks a fails

pub answers_valid : {E : Type 0} (s : Super) (chunks : List ChunkAt) (r : Result (Option ℕ) E) → All (IsChunkOn s) chunks → IfOk r (Answers (Apart2 chunks) (Overlaps chunks))
    → IfOk r (Answers ((a : ℕ) → AreChunksApart s chunks a) (λ a. ¬ AreChunksApart s chunks a))
answers_valid s chunks (Ok found) valid are = answers_apart s chunks found valid are
answers_valid s chunks (Err e) valid are = tt

both : (chunks : List ChunkAt) (first second : Option ℕ) → Answers (AllPairs Apart (map chunk_span chunks)) (FailsOfTwo start_of Apart (map chunk_span chunks)) first
    → Answers (AllPairs Apart (flat_map stripe_spans chunks)) (FailsOfTwo start_of Apart (flat_map stripe_spans chunks)) second → Answers (Apart2 chunks) (Overlaps chunks) (first_found first second)
both chunks None None logical physical = (logical, physical)
both chunks None (Some a) logical fails = inr fails
both chunks (Some a) second fails physical = inl fails

-- what is answered by two lists of ranges, those of addresses and those of the device
pub both_answer : (chunks : List ChunkAt) (addresses places : List Span) (first second found : Option ℕ) → addresses ≡ map chunk_span chunks → places ≡ flat_map stripe_spans chunks
    → Answers (AllPairs Apart addresses) (FailsOfTwo start_of Apart addresses) first → Answers (AllPairs Apart places) (FailsOfTwo start_of Apart places) second → found ≡ first_found first second
    → Answers (Apart2 chunks) (Overlaps chunks) found
both_answer chunks addresses places first second found a p one two is =
    subst (Answers (Apart2 chunks) (Overlaps chunks)) (sym is)
    (both chunks first second (subst (λ (l : List Span). Answers (AllPairs Apart l) (FailsOfTwo start_of Apart l) first) a one) (subst (λ (l : List Span). Answers (AllPairs Apart l) (FailsOfTwo start_of Apart l) second) p two))
