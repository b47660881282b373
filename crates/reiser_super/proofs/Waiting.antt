-- Which transactions wait, from what was read of a journal.
use Rattle.reiser_super.proofs.Imports.{◌≡◌, ℕ, zero, suc, ◌+◌, ◌<◌, Bool, true, false, List, [], ◌∷◌, map, length, get_or, cond, refl, sym, ◌∙◌, ap, arith, subst, filter, Contains, range_with_len, length-map-range_with_len, get_or-map-range_with_len, filter_of_map_range_with_len_more, Image, block_at, Super, is_descriptor, transaction, transaction_length, log_block, commit_place, is_newer, commits, waiting_at, all_transactions, last_flushed, next_place, names_place, pending_transactions}

pub not_newer : (s : Super) (image : Image) (flushed place : ℕ) (bytes : List ℕ) → bytes ≡ log_block s image place → false ≡ is_newer flushed s.journal_size bytes → waiting_at s image flushed place ≡ []
unfolding waiting_at
not_newer s image flushed place bytes is h = let older = rw is at h in rw (sym older) refl

pub not_committed : (s : Super) (image : Image) (flushed place : ℕ) (bytes commit : List ℕ) (trans len at : ℕ) → bytes ≡ log_block s image place → true ≡ is_newer flushed s.journal_size bytes
    → trans ≡ transaction bytes → len ≡ transaction_length bytes → at ≡ commit_place s.journal_size place len → commit ≡ log_block s image at
    → false ≡ commits trans len commit → waiting_at s image flushed place ≡ []
unfolding waiting_at
not_committed s image flushed place bytes commit trans len at is h t l a i c =
    let newer = rw is at h in
    let other = rw (i, a, l, t, is) at c in rw (sym newer, sym other) refl

pub committed : (s : Super) (image : Image) (flushed place : ℕ) (bytes commit : List ℕ) (trans len at : ℕ) → bytes ≡ log_block s image place → true ≡ is_newer flushed s.journal_size bytes
    → trans ≡ transaction bytes → len ≡ transaction_length bytes → at ≡ commit_place s.journal_size place len → commit ≡ log_block s image at
    → true ≡ commits trans len commit → Contains (waiting_at s image flushed place) trans
unfolding waiting_at
committed s image flushed place bytes commit trans len at is h t l a i c =
    let newer = rw is at h in
    let whole = rw (i, a, l, t, is) at c in rw (sym newer, sym whole) (zero, omega arith, sym (rw is at t))

pub at_place : (s : Super) (image : Image) (header : List ℕ) (flushed place : ℕ) → header ≡ block_at image (s.journal_first + s.journal_size) → true ≡ names_place s.journal_size header
    → flushed ≡ last_flushed header → place ≡ next_place header → waiting_at s image flushed place ≡ pending_transactions s image
unfolding pending_transactions
at_place s image header flushed place is h f p = let named = rw is at h in rw (sym named, f, p, is) refl

pub at_log : (s : Super) (image : Image) (header : List ℕ) → header ≡ block_at image (s.journal_first + s.journal_size) → false ≡ names_place s.journal_size header → all_transactions s image ≡ pending_transactions s image
unfolding pending_transactions
at_log s image header is h = let named = rw is at h in rw (sym named) refl

-- an element of a list
head_in : {X : Type 0} (x : X) (xs : List X) → Contains (x ∷ xs) x
head_in x xs = (zero, omega arith, refl)

behind : {X : Type 0} (x y : X) (xs : List X) → Contains xs x → Contains (y ∷ xs) x
behind x y xs h = (suc h.0, omega (arith, h.1), h.2)

-- what passes a test stays in a filter
passes : {X : Type 0} (p : X → Bool) (xs : List X) (i : ℕ) (d : X) → i < length xs → p (get_or xs i d) ≡ true → Contains (filter p xs) (get_or xs i d)
passes p [] i d h t = absurd (omega arith)
passes p (x ∷ xs) zero d h t = rw t (head_in x (filter p xs))
passes p (x ∷ xs) (suc i) d h t =
    let later = passes p xs i d (omega arith) t in
    elim (p x) as (λ b. Contains (cond b (x ∷ filter p xs) (filter p xs)) (get_or xs i d)) [ true ↦ behind _ _ _ later | false ↦ later ]

mapped : {X Y : Type 0} (f : X → Y) (xs : List X) (i : ℕ) (x : X) → i < length xs → get_or xs i x ≡ x → Contains (map f xs) (f x)
mapped f [] i x h is = absurd (omega arith)
mapped f (y ∷ xs) zero x h is = (zero, omega arith, ap f is)
mapped f (y ∷ xs) (suc i) x h is = behind _ _ _ (mapped f xs i x (omega arith) is)

-- a descriptor in the log is among all of them
among_them : (s : Super) (image : Image) (place : ℕ) → place < s.journal_size → is_descriptor (log_block s image place) ≡ true → Contains (all_transactions s image) (transaction (log_block s image place))
unfolding all_transactions
among_them s image place h t =
    let blocks : List (List ℕ) = map (log_block s image) (range_with_len 0 s.journal_size) in
    let at : get_or blocks place [] ≡ log_block s image place = get_or-map-range_with_len (log_block s image) 0 s.journal_size place place [] h (omega arith) in
    let kept : Contains (filter is_descriptor blocks) (get_or blocks place []) =
    passes is_descriptor blocks place [] (omega (arith, length-map-range_with_len (log_block s image) 0 s.journal_size)) (rw at t) in
    mapped transaction (filter is_descriptor blocks) kept.0 (log_block s image place) kept.1 (subst (λ (b : List ℕ). get_or (filter is_descriptor blocks) kept.0 b ≡ b) at kept.2)

pub among_all : (s : Super) (image : Image) (place : ℕ) (bytes : List ℕ) (trans : ℕ) → place < s.journal_size → bytes ≡ log_block s image place → true ≡ is_descriptor bytes → trans ≡ transaction bytes → Contains (all_transactions s image) trans
among_all s image place bytes trans h is t e =
    subst (Contains (all_transactions s image)) (sym (e ∙ ap transaction is)) (among_them s image place h (sym (ap is_descriptor is) ∙ sym t))

pub none_more : (s : Super) (image : Image) (place : ℕ) (bytes : List ℕ) → filter is_descriptor (map (log_block s image) (range_with_len 0 place)) ≡ [] → bytes ≡ log_block s image place → false ≡ is_descriptor bytes
    → filter is_descriptor (map (log_block s image) (range_with_len 0 (place + 1))) ≡ []
none_more s image place bytes before is t =
    let here : is_descriptor (log_block s image place) ≡ false = sym (ap is_descriptor is) ∙ sym t in
    filter_of_map_range_with_len_more is_descriptor (log_block s image) 0 place place (omega arith) ∙ rw (before, here) refl

pub none_at_all : (s : Super) (old image : Image) (place : ℕ) → old ≡ image → place ≡ s.journal_size → filter is_descriptor (map (log_block s old) (range_with_len 0 place)) ≡ [] → all_transactions s image ≡ []
unfolding all_transactions
none_at_all s old image place is end none =
    ap (map transaction) (subst (λ (i : Image). filter is_descriptor (map (log_block s i) (range_with_len 0 s.journal_size)) ≡ []) is
    (subst (λ (n : ℕ). filter is_descriptor (map (log_block s old) (range_with_len 0 n)) ≡ []) end none))
