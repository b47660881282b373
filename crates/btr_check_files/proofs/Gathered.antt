-- What the elements of a list give, those that pass a test alone.
use Rattle.btr_check_files.proofs.Imports.{◌≡◌, Bool, true, false, cond, List, [], ◌∷◌, ◌++◌, if◌then◌else◌, filter, refl, sym, ap, subst, append_assoc, IsPermutation-append_comm, IsPermutation-append_left, IsPermutation-append_right, IsPermutation-refl, IsPermutation-trans, flat_map, IsPermutation}

-- what all give, where others give nothing, is what those give
pub gathered : {A B : Type 0} (p : A → Bool) (g : A → List B) (xs : List A) → flat_map (λ x. if p x then g x else []) xs ≡ flat_map g (filter p xs)
gathered p g [] = refl
gathered {A} {B} p g (x ∷ xs) = by (gathered p g xs) (p x)
  where
    by : flat_map (λ (y : A). if p y then g y else []) xs ≡ flat_map g (filter p xs) → (b : Bool)
        → (if b then g x else []) ++ flat_map (λ (y : A). if p y then g y else []) xs ≡ flat_map g (cond b (x ∷ filter p xs) (filter p xs))
    by same true = ap (λ (z : List B). g x ++ z) same
    by same false = same

-- the same of two kinds of elements, but for the order
pub parted : {A B : Type 0} (p q : A → Bool) (g h : A → List B) → ((x : A) → p x ≡ true → q x ≡ false) → (xs : List A)
    → IsPermutation (flat_map (λ x. if p x then g x else (if q x then h x else [])) xs) (flat_map g (filter p xs) ++ flat_map h (filter q xs))
parted {A} {B} p q g h apart [] = IsPermutation-refl []
parted {A} {B} p q g h apart (x ∷ xs) = by (parted p q g h apart xs) (p x) (q x) (apart x)
  where
    rest : List B
    rest = flat_map (λ (y : A). if p y then g y else (if q y then h y else [])) xs

    first : List B
    first = flat_map g (filter p xs)

    second : List B
    second = flat_map h (filter q xs)

    by : IsPermutation rest (first ++ second) → (b c : Bool) → (b ≡ true → c ≡ false)
        → IsPermutation ((if b then g x else (if c then h x else [])) ++ rest) (flat_map g (cond b (x ∷ filter p xs) (filter p xs)) ++ flat_map h (cond c (x ∷ filter q xs) (filter q xs)))
    by same true true other = absurd (let e = other refl in cc)
    by same true false other =
        subst (IsPermutation (g x ++ rest)) (sym (append_assoc (g x) first second)) (IsPermutation-append_right (g x) rest (first ++ second) same)
    by same false true other =
        IsPermutation-trans _ _ _ (IsPermutation-append_right (h x) rest (first ++ second) same)
        (subst (λ (z : List B). IsPermutation z (first ++ (h x ++ second))) (append_assoc (h x) first second)
        (subst (IsPermutation ((h x ++ first) ++ second)) (append_assoc first (h x) second)
        (IsPermutation-append_left second (h x ++ first) (first ++ h x) (IsPermutation-append_comm (h x) first))))
    by same false false other = same
