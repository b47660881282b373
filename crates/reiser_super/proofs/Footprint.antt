-- Which transactions wait depends on the log and its header alone.
use Rattle.reiser_super.proofs.Imports.{◌≡◌, ℕ, ◌+◌, ◌<◌, ◌≤◌, true, false, List, [], map, cond, refl, sym, ◌∙◌, ap, arith, filter, range_with_len, and_parts, ltb-true, length-map-range_with_len, get_or-map-range_with_len, Image, block_at, Super, is_descriptor, transaction, transaction_length, log_block, commit_place, waiting_at, all_transactions, last_flushed, next_place, names_place, pending_transactions}
use Rattle.std.proofs.lemmas.List.{ext_get_or}
use Rattle.std.proofs.lemmas.Nat.{mod_below}

-- the blocks of the log and the header are the same
AgreeOnLog : Super → Image → Image → Type 0
AgreeOnLog s a b = (place : ℕ) → place ≤ s.journal_size → log_block s a place ≡ log_block s b place

place_is_named : (size : ℕ) (header : List ℕ) → names_place size header ≡ true → next_place header < size
unfolding names_place
place_is_named size header h = ltb-true _ _ (and_parts _ _ h).1

same_waiting : (s : Super) (a b : Image) (flushed place : ℕ) → AgreeOnLog s a b → place < s.journal_size → waiting_at s a flushed place ≡ waiting_at s b flushed place
unfolding waiting_at AgreeOnLog
same_waiting s a b flushed place agree h =
    let len : ℕ = transaction_length (log_block s b place) in
    let descriptor : log_block s a place ≡ log_block s b place = agree place (omega arith) in
    let goes_round : commit_place s.journal_size place len < s.journal_size = mod_below (place + len + 1) s.journal_size (omega arith) in
    let commit : log_block s a (commit_place s.journal_size place len) ≡ log_block s b (commit_place s.journal_size place len) = agree _ (omega arith) in
    rw (descriptor, commit) refl

same_map : (f g : ℕ → List ℕ) (n : ℕ) → ((k : ℕ) → k < n → f k ≡ g k) → map f (range_with_len 0 n) ≡ map g (range_with_len 0 n)
same_map f g n same =
    ext_get_or [] _ _ (length-map-range_with_len f 0 n ∙ sym (length-map-range_with_len g 0 n))
    (λ i h. let inside : i < n = omega (arith, length-map-range_with_len f 0 n) in
    get_or-map-range_with_len f 0 n i i [] inside (omega arith) ∙ (same i inside ∙ sym (get_or-map-range_with_len g 0 n i i [] inside (omega arith))))

same_all : (s : Super) (a b : Image) → AgreeOnLog s a b → all_transactions s a ≡ all_transactions s b
unfolding all_transactions AgreeOnLog
same_all s a b agree =
    ap (λ (blocks : List (List ℕ)). map transaction (filter is_descriptor blocks)) (same_map (log_block s a) (log_block s b) s.journal_size (λ k h. agree k (omega arith)))

pub same_pending : (s : Super) (a b : Image) → ((place : ℕ) → place ≤ s.journal_size → log_block s a place ≡ log_block s b place) → pending_transactions s a ≡ pending_transactions s b
unfolding pending_transactions AgreeOnLog
same_pending s a b agree =
    let header : List ℕ = block_at b (s.journal_first + s.journal_size) in
    let same : block_at a (s.journal_first + s.journal_size) ≡ header = agree s.journal_size (omega arith) in
    rw same
    (elim (names_place s.journal_size header) as (λ named. names_place s.journal_size header ≡ named → cond named (waiting_at s a (last_flushed header) (next_place header)) (all_transactions s a)
    ≡ cond named (waiting_at s b (last_flushed header) (next_place header)) (all_transactions s b)) [
      | true ↦ λ is. same_waiting s a b (last_flushed header) (next_place header) agree (place_is_named s.journal_size header is)
      | false ↦ λ is. same_all s a b agree
    ] refl)
