-- The chunks of the bootstrap array, one after the other.
use Rattle.btr_reader.proofs.Imports.{◌≡◌, ℕ, zero, suc, ◌≤◌, ◌<◌, List, [], ◌∷◌, ◌++◌, length, drop, Option, Some, None, refl, sym, ◌∙◌, ap, arith, append_assoc, length-drop, option_map, option_and_then, append-nil, ChunkAt, entry_size, front_chunk, chunks_within}

-- what is behind the first chunk
abbrev pub with_first : List ℕ → ℕ → Option ChunkAt → Option (List ChunkAt)
with_first rest n first = option_and_then (λ c. option_map (λ cs. c ∷ cs) (chunks_within n (drop (entry_size rest) rest))) first

pub more_chunks : (n : ℕ) (rest : List ℕ) → 0 < length rest → length rest ≤ n → (m : ℕ) × (n ≡ suc m) × (chunks_within n rest ≡ with_first rest m (front_chunk rest))
unfolding chunks_within
more_chunks n [] some few = absurd (omega arith)
more_chunks zero (b ∷ bs) some few = absurd (omega arith)
more_chunks (suc m) (b ∷ bs) some few = (m, refl, refl)

joined : (done : List ChunkAt) (c : ChunkAt) (later : Option (List ChunkAt))
    → option_map (λ cs. done ++ cs) (option_map (λ cs. c ∷ cs) later) ≡ option_map (λ cs. (done ++ c ∷ []) ++ cs) later
joined done c None = refl
joined done c (Some cs) = ap Some (sym (append_assoc done (c ∷ []) cs))

-- a chunk more
pub chunk_more : (n : ℕ) (rest : List ℕ) (c : ChunkAt) (done : List ChunkAt) (all : Option (List ChunkAt)) → 0 < length rest → length rest ≤ n → 1 ≤ entry_size rest → Some c ≡ front_chunk rest
    → option_map (λ cs. done ++ cs) (chunks_within n rest) ≡ all
    → (m : ℕ) × (length (drop (entry_size rest) rest) ≤ m) × (option_map (λ cs. (done ++ c ∷ []) ++ cs) (chunks_within m (drop (entry_size rest) rest)) ≡ all)
chunk_more n rest c done all some few size is so_far =
    let more = more_chunks n rest some few in
    let m : ℕ = more.0 in (
      m,
      omega (arith, more.1, length-drop (entry_size rest) rest, few, size),
      sym (joined done c (chunks_within m (drop (entry_size rest) rest)))
          ∙ (ap (λ (f : Option ChunkAt). option_map (λ cs. done ++ cs) (with_first rest m f)) is
          ∙ (ap (λ (o : Option (List ChunkAt)). option_map (λ cs. done ++ cs) o) (sym more.2) ∙ so_far)),
    )

-- there is no chunk where one has to be
pub no_chunk : (n : ℕ) (rest : List ℕ) (done : List ChunkAt) (all : Option (List ChunkAt)) → 0 < length rest → length rest ≤ n → front_chunk rest ≡ None
    → option_map (λ cs. done ++ cs) (chunks_within n rest) ≡ all → all ≡ None
no_chunk n rest done all some few none so_far =
    let more = more_chunks n rest some few in
    sym so_far ∙ (ap (λ (o : Option (List ChunkAt)). option_map (λ cs. done ++ cs) o) more.2 ∙ ap (λ (f : Option ChunkAt). option_map (λ cs. done ++ cs) (with_first rest more.0 f)) none)

-- the array is over
pub no_more : (n : ℕ) (rest : List ℕ) (done : List ChunkAt) (all : Option (List ChunkAt)) → length rest ≡ 0 → option_map (λ cs. done ++ cs) (chunks_within n rest) ≡ all → all ≡ Some done
unfolding chunks_within
no_more n [] done all empty so_far = sym so_far ∙ ap Some (append-nil done)
no_more n (b ∷ bs) done all empty so_far = absurd (omega (arith, empty))
