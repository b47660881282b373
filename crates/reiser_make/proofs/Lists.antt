-- Lists of what numbers in a row give, and what is left of a list.
use Rattle.reiser_make.proofs.Imports.{◌≡◌, ℕ, zero, suc, ◌+◌, List, [], ◌∷◌, ◌++◌, take, drop, refl, sym, ap, ◌∙◌, arith, add-one, add-zero, append_assoc, map, Some, None, range_with_len, flat_map, slice_get, append-nil, at_drop_more}
use Rattle.std.proofs.lemmas.Grind.{flat_map-append}
use Rattle.std.proofs.lemmas.Option.{slice_get_within, get_or_from_slice_get}

range_suc : (a n : ℕ) → range_with_len a (suc n) ≡ range_with_len a n ++ (a + n) ∷ []
range_suc a zero = ap (λ k. k ∷ []) (sym (add-zero a))
range_suc a (suc n) = ap (λ ks. a ∷ ks) (range_suc (a + 1) n ∙ ap (λ k. range_with_len (a + 1) n ++ k ∷ []) (omega arith))

-- one number more
pub range_more : (a n : ℕ) → range_with_len a (n + 1) ≡ range_with_len a n ++ (a + n) ∷ []
range_more a n = rw add-one (range_suc a n)

pub flat_map_more : {A : Type 0} (f : ℕ → List A) (a n k : ℕ) → a + n ≡ k → flat_map f (range_with_len a (n + 1)) ≡ flat_map f (range_with_len a n) ++ f k
flat_map_more f a n k is =
    ap (flat_map f) (range_more a n ∙ ap (λ j. range_with_len a n ++ j ∷ []) is)
    ∙ flat_map-append f (range_with_len a n) (k ∷ [])
    ∙ ap (λ z. flat_map f (range_with_len a n) ++ z) (append-nil (f k))

-- what is left of a list begins with the element there
pub drop_some : {X : Type 0} (xs : List X) (i : ℕ) (x : X) → slice_get xs i ≡ Some x → drop i xs ≡ x ∷ drop (i + 1) xs
drop_some xs i x is =
    at_drop_more (λ z. z) xs i x (slice_get_within xs i x is) ∙ ap (λ y. y ∷ drop (i + 1) xs) (get_or_from_slice_get xs i x x is)

pub drop_none : {X : Type 0} (xs : List X) (i : ℕ) → slice_get xs i ≡ None → drop i xs ≡ []
drop_none [] zero is = refl
drop_none [] (suc i) is = refl
drop_none (y ∷ ys) zero is = (cc)
drop_none (y ∷ ys) (suc i) is = drop_none ys i is

pub flat_map_map : {X Y : Type 0} (g : Y → List ℕ) (f : X → Y) (xs : List X) → flat_map g (map f xs) ≡ flat_map (λ x. g (f x)) xs
flat_map_map g f [] = refl
flat_map_map g f (x ∷ xs) = ap (λ z. g (f x) ++ z) (flat_map_map g f xs)

-- what stands in front, with one part more of a row
pub front_more : (f : ℕ → List ℕ) (a n k at next : ℕ) (front old new : List ℕ) → a + n ≡ k → take at old ≡ front ++ flat_map f (range_with_len a n) → take next new ≡ take at old ++ f k
    → take next new ≡ front ++ flat_map f (range_with_len a (n + 1))
front_more f a n k at next front old new is before put =
    put ∙ ap (λ z. z ++ f k) before ∙ append_assoc front (flat_map f (range_with_len a n)) (f k) ∙ ap (λ z. front ++ z) (sym (flat_map_more f a n k is))
