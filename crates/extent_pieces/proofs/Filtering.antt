-- Pieces for the numbers that pass a test, one after the other.
use Rattle.extent_pieces.proofs.Imports.{◌≡◌, ℕ, ◌+◌, ◌-◌, ◌<◌, ◌≤◌, Bool, true, false, List, [], ◌∷◌, ◌++◌, map, refl, sym, ◌∙◌, ap, arith, append_assoc, filter, range_with_len, append-nil, map-append, filter-append, range_cut, filter_range_none, Piece}

-- no number passes from a on to before c
pub more_none : (p : ℕ → Bool) (f : ℕ → Piece) (old new : List Piece) (a c : ℕ) → a ≤ c → ((k : ℕ) → a ≤ k → k < c → p k ≡ false)
    → new ≡ old ++ map f (filter p (range_with_len 0 a)) → new ≡ old ++ map f (filter p (range_with_len 0 c))
more_none p f old new a c order none is =
    let cut : filter p (range_with_len 0 c) ≡ filter p (range_with_len 0 a) =
    ap (filter p) (range_cut 0 a (c - a) c a (omega arith) (omega arith))
    ∙ (filter-append p (range_with_len 0 a) (range_with_len a (c - a))
    ∙ (ap (λ (xs : List ℕ). filter p (range_with_len 0 a) ++ xs) (filter_range_none p a (c - a) (λ k low high. none k low (omega arith)))
    ∙ append-nil (filter p (range_with_len 0 a)))) in
    is ∙ ap (λ (xs : List ℕ). old ++ map f xs) (sym cut)

-- number a passes
pub more_one : (p : ℕ → Bool) (f : ℕ → Piece) (old new : List Piece) (a : ℕ) → p a ≡ true
    → new ≡ old ++ map f (filter p (range_with_len 0 a)) → new ++ f a ∷ [] ≡ old ++ map f (filter p (range_with_len 0 (a + 1)))
more_one p f old new a passes is =
    let one : filter p (range_with_len a 1) ≡ a ∷ [] = rw passes refl in
    let cut : filter p (range_with_len 0 (a + 1)) ≡ filter p (range_with_len 0 a) ++ a ∷ [] =
    ap (filter p) (range_cut 0 a 1 (a + 1) a refl (omega arith))
    ∙ (filter-append p (range_with_len 0 a) (range_with_len a 1)
    ∙ ap (λ (xs : List ℕ). filter p (range_with_len 0 a) ++ xs) one) in
    let regrouped : (old ++ map f (filter p (range_with_len 0 a))) ++ f a ∷ [] ≡ old ++ (map f (filter p (range_with_len 0 a)) ++ f a ∷ []) = rw append_assoc refl in
    ap (λ (xs : List Piece). xs ++ f a ∷ []) is
    ∙ (regrouped
    ∙ ap (λ (xs : List Piece). old ++ xs) (sym (ap (map f) cut ∙ map-append f (filter p (range_with_len 0 a)) (a ∷ []))))
