-- Lists without repetition: how many of their elements pass a test.
use Rattle.btr_check_rules.proofs.Imports.{◌≡◌, ◌≢◌, ◌⊎◌, ◌<◌, ℕ, zero, suc, Bool, true, false, cond, List, [], ◌∷◌, ◌++◌, length, map, get_or, inl, inr, refl, sym, ap, subst, ◌∙◌, ⊎_elim, arith, All, AllPairs, Contains, flat_map, count_by, All-contains, All-append, Contains-get_or, Contains-append_left, cases_lt, get_or-map, get_or_default, length-map, AllPairs-cons, sum_by-cons, at_head, from_flat_map, head_or_tail, in_tail}

-- ---- what holds of each two elements

pub all_from_contains : {X : Type 0} (P : X → Type 0) (xs : List X) → ((x : X) → Contains xs x → P x) → All P xs
all_from_contains P xs each = λ k d h. each (get_or xs k d) (Contains-get_or xs k d h)

pub pairs_tail : {X : Type 0} (R : X → X → Type 0) (x : X) (xs : List X) → AllPairs R (x ∷ xs) → AllPairs R xs
pairs_tail R x xs pairs = λ i j d order inside. pairs (suc i) (suc j) d (omega (arith, order)) (omega (arith, inside))

pub pairs_head : {X : Type 0} (R : X → X → Type 0) (x : X) (xs : List X) → AllPairs R (x ∷ xs) → All (R x) xs
pairs_head R x xs pairs = λ k d inside. pairs zero (suc k) d (omega arith) (omega (arith, inside))

pairs_append : {X : Type 0} (R : X → X → Type 0) (xs ys : List X) → AllPairs R xs → AllPairs R ys → ((x : X) → Contains xs x → All (R x) ys) → AllPairs R (xs ++ ys)
pairs_append R [] ys first second across = second
pairs_append R (x ∷ xs) ys first second across =
    AllPairs-cons R x (xs ++ ys) (All-append (R x) xs ys (pairs_head R x xs first) (across x (at_head x xs))) (pairs_append R xs ys (pairs_tail R x xs first) second (λ z h. across z (in_tail x xs z h)))

-- of what a function makes of them
pub pairs_of_map : {X Y : Type 0} (R : Y → Y → Type 0) (f : X → Y) (xs : List X) → AllPairs R (map f xs) → AllPairs (λ a b. R (f a) (f b)) xs
pairs_of_map R f xs pairs = λ i j d less inside.
    let long = length-map xs f in
    subst (λ y. R y (f (get_or xs j d))) (get_or-map f xs i d (f d) (omega (arith, less, inside)))
    (subst (λ y. R (get_or (map f xs) i (f d)) y) (get_or-map f xs j d (f d) inside) (pairs i j (f d) less (omega (arith, inside, long))))

pairs_parts : {Y : Type 0} (R : Y → Y → Type 0) (xs ys : List Y) → AllPairs R (xs ++ ys) → AllPairs R xs × AllPairs R ys
pairs_parts R [] ys all = ((λ i j d less inside. absurd (omega (arith, inside))), all)
pairs_parts R (z ∷ xs) ys all =
    let rest = pairs_parts R xs ys (pairs_tail R z (xs ++ ys) all) in
    (AllPairs-cons R z xs (all_from_contains (R z) xs (λ w k. All-contains (R z) (xs ++ ys) w (pairs_head R z (xs ++ ys) all) (Contains-append_left xs ys w k))) rest.0, rest.1)

-- of lists, one behind the other, each
pub pairs_in : {X Y : Type 0} (R : Y → Y → Type 0) (f : X → List Y) (xs : List X) (x : X) → Contains xs x → AllPairs R (flat_map f xs) → AllPairs R (f x)
pairs_in R f [] x h pairs = absurd (omega (arith, h.1))
pairs_in R f (y ∷ xs) x h pairs =
    let parts = pairs_parts R (f y) (flat_map f xs) pairs in
    ⊎_elim (λ (same : y ≡ x). subst (λ z. AllPairs R (f z)) same parts.0) (λ (later : Contains xs x). pairs_in R f xs x later parts.1) (head_or_tail y xs x h)

-- two elements are one, or the one stands before the other
pub one_or_two : {X : Type 0} (R : X → X → Type 0) (xs : List X) (x y : X) → AllPairs R xs → Contains xs x → Contains xs y → (x ≡ y) ⊎ (R x y ⊎ R y x)
one_or_two {X} R xs x y pairs hx hy =
    let at_x : get_or xs hx.0 x ≡ x = hx.2 in
    let at_y : get_or xs hy.0 x ≡ y = get_or_default xs hy.0 x y hy.1 ∙ hy.2 in
    ⊎_elim
    (λ (less : hx.0 < hy.0). inr (inl (subst (λ (z : X). R z y) at_x (subst (λ (z : X). R (get_or xs hx.0 x) z) at_y (pairs hx.0 hy.0 x less hy.1)))))
    (λ more. ⊎_elim
    (λ (less : hy.0 < hx.0). inr (inr (subst (λ (z : X). R y z) at_x (subst (λ (z : X). R z (get_or xs hx.0 x)) at_y (pairs hy.0 hx.0 x less hx.1)))))
    (λ same. inl (sym at_x ∙ (ap (λ (k : ℕ). get_or xs k x) (let e : hx.0 ≡ hy.0 = omega (arith, more, same) in e) ∙ at_y)))
    (cases_lt hy.0 hx.0))
    (cases_lt hx.0 hy.0)

-- ---- how many pass a test

-- no element stands twice
abbrev pub AreDistinct : {X : Type 0} → List X → Type 0
AreDistinct xs = AllPairs (λ a b. a ≢ b) xs

-- one for an element that passes
abbrev pub hit : Bool → ℕ
hit b = cond b 1 0

module _ {X : Type 0} where
  apart_head : (x : X) (xs : List X) → AreDistinct (x ∷ xs) → (y : X) → Contains xs y → x ≢ y
  apart_head x xs once y h = All-contains (λ (z : X). x ≢ z) xs y (pairs_head (λ (a b : X). a ≢ b) x xs once) h

  later_once : (x : X) (xs : List X) → AreDistinct (x ∷ xs) → AreDistinct xs
  later_once x xs once = pairs_tail (λ (a b : X). a ≢ b) x xs once

  pub distinct_nil : (xs : List X) → ((x : X) → Contains xs x → ⊥) → AreDistinct xs
  distinct_nil [] none = λ i j d l h. absurd (omega (arith, h))
  distinct_nil (x ∷ xs) none = absurd (none x (at_head x xs))

  pub distinct_one : (x : X) → AreDistinct (x ∷ [])
  distinct_one x = λ i j d l h. absurd (omega (arith, l, h))

  module _ (p : X → Bool) where
    is_no : (x : X) → (p x ≡ true → ⊥) → p x ≡ false
    is_no x no_ = by (p x) refl
      where
        by : (b : Bool) → p x ≡ b → b ≡ false
        by true t = absurd (no_ t)
        by false f = refl

    counted_on : (x : X) (xs : List X) → p x ≡ true → count_by p (x ∷ xs) ≡ suc (count_by p xs)
    counted_on x xs t =
        let whole = sum_by-cons (λ (y : X). hit (p y)) x xs in
        let one : hit (p x) ≡ 1 = ap hit t in
        omega (arith, whole, one)

    counted_off : (x : X) (xs : List X) → p x ≡ false → count_by p (x ∷ xs) ≡ count_by p xs
    counted_off x xs f =
        let whole = sum_by-cons (λ (y : X). hit (p y)) x xs in
        let none : hit (p x) ≡ 0 = ap hit f in
        omega (arith, whole, none)

    pub none_pass : (xs : List X) → ((x : X) → Contains xs x → p x ≡ true → ⊥) → count_by p xs ≡ 0
    none_pass [] none = refl
    none_pass (x ∷ xs) none = counted_off x xs (is_no x (none x (at_head x xs))) ∙ none_pass xs (λ y h. none y (in_tail x xs y h))

    -- one element passes
    pub one_passes : (xs : List X) (x : X) → AreDistinct xs → Contains xs x → p x ≡ true → ((y : X) → Contains xs y → p y ≡ true → x ≡ y) → count_by p xs ≡ 1
    one_passes [] x once h t only = absurd (omega (arith, h.1))
    one_passes (y ∷ xs) x once h t only =
        ⊎_elim
        (λ (same : y ≡ x).
        let none : count_by p xs ≡ 0 = none_pass xs (λ z l passes. apart_head y xs once z l (same ∙ only z (in_tail y xs z l) passes)) in
        let first = counted_on y xs (ap p same ∙ t) in
        omega (arith, none, first))
        (λ (later : Contains xs x).
        let first = counted_off y xs (is_no y (λ passes. apart_head y xs once x later (sym (only y (at_head y xs) passes)))) in
        first ∙ one_passes xs x (later_once y xs once) later t (λ z l passes. only z (in_tail y xs z l) passes))
        (head_or_tail y xs x h)

    -- two of them do
    pub two_pass : (xs : List X) (x y : X) → AreDistinct xs → x ≢ y → Contains xs x → Contains xs y → p x ≡ true → p y ≡ true → ((z : X) → Contains xs z → p z ≡ true → (x ≡ z) ⊎ (y ≡ z)) → count_by p xs ≡ 2
    two_pass [] x y once apart h l t u only = absurd (omega (arith, h.1))
    two_pass (z ∷ xs) x y once apart h l t u only =
        ⊎_elim
        (λ (same : z ≡ x).
        ⊎_elim (λ (also : z ≡ y). absurd (apart (sym same ∙ also)))
        (λ (later : Contains xs y).
        let rest : count_by p xs ≡ 1 =
        one_passes xs y (later_once z xs once) later u
        (λ w k passes. ⊎_elim (λ (is : x ≡ w). absurd (apart_head z xs once w k (same ∙ is))) (λ (is : y ≡ w). is) (only w (in_tail z xs w k) passes)) in
        let first = counted_on z xs (ap p same ∙ t) in
        omega (arith, rest, first))
        (head_or_tail z xs y l))
        (λ (later : Contains xs x).
        ⊎_elim
        (λ (same : z ≡ y).
        let rest : count_by p xs ≡ 1 =
        one_passes xs x (later_once z xs once) later t
        (λ w k passes. ⊎_elim (λ (is : x ≡ w). is) (λ (is : y ≡ w). absurd (apart_head z xs once w k (same ∙ is))) (only w (in_tail z xs w k) passes)) in
        let first = counted_on z xs (ap p same ∙ u) in
        omega (arith, rest, first))
        (λ (last : Contains xs y).
        let first =
        counted_off z xs
        (is_no z (λ passes. ⊎_elim (λ (is : x ≡ z). apart_head z xs once x later (sym is)) (λ (is : y ≡ z). apart_head z xs once y last (sym is)) (only z (at_head z xs) passes))) in
        first ∙ two_pass xs x y (later_once z xs once) apart later last t u (λ w k passes. only w (in_tail z xs w k) passes))
        (head_or_tail z xs y l))
        (head_or_tail z xs x h)

-- what holds of each two elements of lists, and across them, holds of each two in all of them
pub pairs_flat : {X Y : Type 0} (R : Y → Y → Type 0) (f : X → List Y) (xs : List X) → ((x : X) → Contains xs x → AllPairs R (f x)) → AllPairs (λ a b. (y z : Y) → Contains (f a) y → Contains (f b) z → R y z) xs → AllPairs R (flat_map f xs)
pairs_flat R f [] each across = λ i j d l h. absurd (omega (arith, h))
pairs_flat {X} {Y} R f (x ∷ xs) each across =
    let Over : X → X → Type 0 = λ a b. (y z : Y) → Contains (f a) y → Contains (f b) z → R y z in
    pairs_append R (f x) (flat_map f xs) (each x (at_head x xs)) (pairs_flat R f xs (λ z h. each z (in_tail x xs z h)) (pairs_tail Over x xs across))
    (λ y h. all_from_contains (R y) (flat_map f xs) (λ z l. let at = from_flat_map f xs z l in All-contains (Over x) xs at.0 (pairs_head Over x xs across) at.1 y z h at.2))

-- lists that have no element in common, one behind the other
pub distinct_flat : {X Y : Type 0} (f : X → List Y) (xs : List X) → ((x : X) → Contains xs x → AreDistinct (f x)) → AllPairs (λ a b. (y : Y) → Contains (f a) y → Contains (f b) y → ⊥) xs → AreDistinct (flat_map f xs)
distinct_flat {X} {Y} f xs each apart =
    pairs_flat (λ (a b : Y). a ≢ b) f xs each (λ i j d l h y z one two e. apart i j d l h y one (subst (Contains (f (get_or xs j d))) (sym e) two))
