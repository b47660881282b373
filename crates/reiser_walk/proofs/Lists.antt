-- A fact of each element of a list, and of each element and each later one, by recursion over the list.
use Rattle.reiser_walk.proofs.Imports.{◌≡◌, zero, suc, List, [], ◌∷◌, ◌++◌, All, AllPairs, refl, arith, flat_map}

abbrev pub Each : {X : Type 0} → (X → Type 0) → List X → Type 0
Each P [] = Unit {0}
Each P (x ∷ xs) = P x × Each P xs

abbrev pub Pairs : {X : Type 0} → (X → X → Type 0) → List X → Type 0
Pairs R [] = Unit {0}
Pairs R (x ∷ xs) = Each (R x) xs × Pairs R xs

module _ {X : Type 0} (P : X → Type 0) where
  pub all_from_each : (xs : List X) → Each P xs → All P xs
  all_from_each [] h k d within = absurd (omega arith)
  all_from_each (x ∷ xs) h zero d within = h.0
  all_from_each (x ∷ xs) h (suc k) d within = all_from_each xs h.1 k d (omega arith)

  pub each_from_all : (xs : List X) → All P xs → Each P xs
  each_from_all [] h = tt
  each_from_all (x ∷ xs) h = (h zero x (omega arith), each_from_all xs (λ k d within. h (suc k) d (omega arith)))

  pub each_map : (Q : X → Type 0) (xs : List X) → ((x : X) → P x → Q x) → Each P xs → Each Q xs
  each_map Q [] f h = tt
  each_map Q (x ∷ xs) f h = (f x h.0, each_map Q xs f h.1)

  pub each_both : (Q R : X → Type 0) (xs : List X) → ((x : X) → P x → Q x → R x) → Each P xs → Each Q xs → Each R xs
  each_both Q R [] f h k = tt
  each_both Q R (x ∷ xs) f h k = (f x h.0 k.0, each_both Q R xs f h.1 k.1)

module _ {X : Type 0} (R : X → X → Type 0) where
  pub all_pairs_from_pairs : (xs : List X) → Pairs R xs → AllPairs R xs
  all_pairs_from_pairs [] h i j d before within = absurd (omega arith)
  all_pairs_from_pairs (x ∷ xs) h zero zero d before within = absurd (omega arith)
  all_pairs_from_pairs (x ∷ xs) h zero (suc j) d before within = all_from_each (R x) xs h.0 j d (omega arith)
  all_pairs_from_pairs (x ∷ xs) h (suc i) zero d before within = absurd (omega arith)
  all_pairs_from_pairs (x ∷ xs) h (suc i) (suc j) d before within = all_pairs_from_pairs xs h.1 i j d (omega arith) (omega arith)

  pub pairs_from_all_pairs : (xs : List X) → AllPairs R xs → Pairs R xs
  pairs_from_all_pairs [] h = tt
  pairs_from_all_pairs (x ∷ xs) h = (
    each_from_all (R x) xs (λ k d within. h zero (suc k) d (omega arith) (omega arith)),
    pairs_from_all_pairs xs (λ i j d before within. h (suc i) (suc j) d (omega arith) (omega arith)),
  )

module _ {X : Type 0} where
  pub nil_left : (xs ys : List X) → xs ++ ys ≡ [] → xs ≡ []
  nil_left [] ys h = refl
  nil_left (x ∷ xs) ys h = absurd cc

  pub nil_right : (xs ys : List X) → xs ++ ys ≡ [] → ys ≡ []
  nil_right [] ys h = h
  nil_right (x ∷ xs) ys h = absurd cc

  pub both_nil : (xs ys : List X) → xs ≡ [] → ys ≡ [] → xs ++ ys ≡ []
  both_nil xs ys a b = rw (a, b) refl

module _ {X Y : Type 0} (f : X → List Y) where
  pub each_from_flat : (xs : List X) → flat_map f xs ≡ [] → Each (λ x. f x ≡ []) xs
  each_from_flat [] h = tt
  each_from_flat (x ∷ xs) h = (nil_left (f x) (flat_map f xs) h, each_from_flat xs (nil_right (f x) (flat_map f xs) h))

  pub flat_from_each : (xs : List X) → Each (λ x. f x ≡ []) xs → flat_map f xs ≡ []
  flat_from_each [] h = refl
  flat_from_each (x ∷ xs) h = both_nil (f x) (flat_map f xs) h.0 (flat_from_each xs h.1)
