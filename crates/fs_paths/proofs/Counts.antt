-- Counts over lists.
use Rattle.fs_paths.proofs.Imports.{◌≡◌, ℕ, zero, suc, ◌+◌, ◌<◌, ◌≤◌, Bool, true, false, cond, ◌&&◌, List, [], ◌∷◌, ◌++◌, map, length, get_or, filter, flat_map, sum_by, count_by, Contains, AllPairs, refl, sym, ap, ◌∙◌, arith, sum_by-cons, sum_by-append, get_or-le-sum_by, Contains-append_right}

pub and_true : (a : Bool) → (a && true) ≡ a
and_true true = refl
and_true false = refl

pub and_false : (a : Bool) → (a && false) ≡ false
and_false true = refl
and_false false = refl

pub count_cons : {X : Type 0} (p : X → Bool) (x : X) (xs : List X) → count_by p (x ∷ xs) ≡ cond (p x) 1 0 + count_by p xs
count_cons p x xs = sum_by-cons (λ y. cond (p y) 1 0) x xs

pub count_append : {X : Type 0} (p : X → Bool) (xs ys : List X) → count_by p (xs ++ ys) ≡ count_by p xs + count_by p ys
count_append p xs ys = sum_by-append (λ y. cond (p y) 1 0) xs ys

pub count_map : {X Y : Type 0} (p : Y → Bool) (f : X → Y) (xs : List X) → count_by p (map f xs) ≡ count_by (λ x. p (f x)) xs
count_map p f [] = refl
count_map p f (x ∷ xs) = count_cons p (f x) (map f xs) ∙ (ap (λ (n : ℕ). cond (p (f x)) 1 0 + n) (count_map p f xs) ∙ sym (count_cons (λ y. p (f y)) x xs))

pub count_filter : {X : Type 0} (p q : X → Bool) (xs : List X) → count_by p (filter q xs) ≡ count_by (λ x. q x && p x) xs
count_filter p q [] = refl
count_filter {X} p q (x ∷ xs) = by (q x) refl (count_filter p q xs)
  where
    zero_more : (n : ℕ) → n ≡ 0 + n
    zero_more n = omega arith

    by : (b : Bool) → q x ≡ b → count_by p (filter q xs) ≡ count_by (λ y. q y && p y) xs → count_by p (filter q (x ∷ xs)) ≡ count_by (λ y. q y && p y) (x ∷ xs)
    by true is rest =
        ap (λ (b : Bool). count_by p (cond b (x ∷ filter q xs) (filter q xs))) is
        ∙ (count_cons p x (filter q xs) ∙ (ap (λ (n : ℕ). cond (p x) 1 0 + n) rest
        ∙ (ap (λ (b : Bool). cond (b && p x) 1 0 + count_by (λ y. q y && p y) xs) (sym is) ∙ sym (count_cons (λ y. q y && p y) x xs))))
    by false is rest =
        ap (λ (b : Bool). count_by p (cond b (x ∷ filter q xs) (filter q xs))) is
        ∙ (rest ∙ (zero_more (count_by (λ y. q y && p y) xs) ∙ (ap (λ (b : Bool). cond (b && p x) 1 0 + count_by (λ y. q y && p y) xs) (sym is) ∙ sym (count_cons (λ y. q y && p y) x xs))))

pub count_flat : {X Y : Type 0} (p : Y → Bool) (f : X → List Y) (xs : List X) → count_by p (flat_map f xs) ≡ sum_by (λ x. count_by p (f x)) xs
count_flat p f [] = refl
count_flat p f (x ∷ xs) =
    count_append p (f x) (flat_map f xs) ∙ (ap (λ (n : ℕ). count_by p (f x) + n) (count_flat p f xs) ∙ sym (sum_by-cons (λ y. count_by p (f y)) x xs))

-- what no element passes
pub count_none : {X : Type 0} (p : X → Bool) (xs : List X) → ((x : X) → Contains xs x → p x ≡ false) → count_by p xs ≡ 0
count_none p [] none = refl
count_none p (x ∷ xs) none =
    count_cons p x xs ∙ (ap (λ (b : Bool). cond b 1 0 + count_by p xs) (none x (0, omega arith, refl)) ∙ (ap (λ (n : ℕ). 0 + n) (count_none p xs (λ y among. none y (Contains-append_right (x ∷ []) xs y among))) ∙ omega arith))

-- what no two elements pass
pub count_once : {X : Type 0} (p : X → Bool) (xs : List X) → AllPairs (λ a b. p a ≡ true → p b ≡ true → ⊥) xs → count_by p xs ≤ 1
count_once p [] pairs = omega arith
count_once {X} p (x ∷ xs) pairs = by (p x) refl (count_once p xs (λ i j d below within. pairs (suc i) (suc j) d (omega arith) (omega arith)))
  where
    not_both : p x ≡ true → (y : X) → Contains xs y → (b : Bool) → p y ≡ b → b ≡ false
    not_both is y among true own = absurd (pairs 0 (suc among.0) y (omega arith) (omega (arith, among.1)) is (ap p among.2 ∙ own))
    not_both is y among false own = refl

    by : (b : Bool) → p x ≡ b → count_by p xs ≤ 1 → count_by p (x ∷ xs) ≤ 1
    by true is rest =
        let others : count_by p xs ≡ 0 = count_none p xs (λ y among. not_both is y among (p y) refl) in
        let head : count_by p (x ∷ xs) ≡ cond (p x) 1 0 + count_by p xs = count_cons p x xs in
        let now : ◌≡◌ {A = ℕ} (cond (p x) 1 0) 1 = ap (λ (b : Bool). cond b 1 0) is in
        omega (arith, others, head, now)
    by false is rest =
        let head : count_by p (x ∷ xs) ≡ cond (p x) 1 0 + count_by p xs = count_cons p x xs in
        let now : ◌≡◌ {A = ℕ} (cond (p x) 1 0) 0 = ap (λ (b : Bool). cond b 1 0) is in
        omega (arith, rest, head, now)

-- two elements that pass
pub count_twice : {X : Type 0} (p : X → Bool) (xs : List X) (i j : ℕ) (d : X) → i < j → j < length xs → p (get_or xs i d) ≡ true → p (get_or xs j d) ≡ true → 2 ≤ count_by p xs
count_twice p [] i j d below within first second = absurd (omega arith)
count_twice p (x ∷ xs) i zero d below within first second = absurd (omega arith)
count_twice p (x ∷ xs) zero (suc j) d below within first second =
    let head : count_by p (x ∷ xs) ≡ cond (p x) 1 0 + count_by p xs = count_cons p x xs in
    let own : ◌≡◌ {A = ℕ} (cond (p x) 1 0) 1 = ap (λ (b : Bool). cond b 1 0) first in
    let other : ◌≡◌ {A = ℕ} (cond (p (get_or xs j d)) 1 0) 1 = ap (λ (b : Bool). cond b 1 0) second in
    let part : cond (p (get_or xs j d)) 1 0 ≤ count_by p xs = get_or-le-sum_by (λ y. cond (p y) 1 0) xs j d (omega arith) in
    omega (arith, head, own, other, part)
count_twice p (x ∷ xs) (suc i) (suc j) d below within first second =
    let head : count_by p (x ∷ xs) ≡ cond (p x) 1 0 + count_by p xs = count_cons p x xs in
    let rest : 2 ≤ count_by p xs = count_twice p xs i j d (omega arith) (omega arith) first second in
    omega (arith, head, rest)

pub sum_zero : {X : Type 0} (f : X → ℕ) (xs : List X) → ((x : X) → f x ≡ 0) → sum_by f xs ≡ 0
sum_zero f [] zeros = refl
sum_zero f (x ∷ xs) zeros =
    let head : sum_by f (x ∷ xs) ≡ f x + sum_by f xs = sum_by-cons f x xs in
    let rest : sum_by f xs ≡ 0 = sum_zero f xs zeros in
    omega (arith, head, rest, zeros x)

pub sum_split : {X : Type 0} (f g h : X → ℕ) (xs : List X) → ((x : X) → h x ≡ f x + g x) → sum_by h xs ≡ sum_by f xs + sum_by g xs
sum_split f g h [] is = refl
sum_split f g h (x ∷ xs) is =
    let of_h : sum_by h (x ∷ xs) ≡ h x + sum_by h xs = sum_by-cons h x xs in
    let of_f : sum_by f (x ∷ xs) ≡ f x + sum_by f xs = sum_by-cons f x xs in
    let of_g : sum_by g (x ∷ xs) ≡ g x + sum_by g xs = sum_by-cons g x xs in
    let rest : sum_by h xs ≡ sum_by f xs + sum_by g xs = sum_split f g h xs is in
    omega (arith, of_h, of_f, of_g, rest, is x)

-- Pairs of elements that belong together, counted by the second: where each second one has at most one first one, and
-- only if it passes, they are no more than those that pass.
pub pairs_at_most : {X Y : Type 0} (q : X → Y → Bool) (r : Y → Bool) (xs : List X) (ys : List Y) → ((y : Y) → Contains ys y → count_by (λ x. q x y) xs ≤ cond (r y) 1 0)
    → sum_by (λ x. count_by (q x) ys) xs ≤ count_by r ys
pairs_at_most q r xs [] few = let none : sum_by (λ x. count_by (q x) []) xs ≡ 0 = sum_zero (λ x. count_by (q x) []) xs (λ x. refl) in omega (arith, none)
pairs_at_most q r xs (y ∷ ys) few =
    let split : sum_by (λ x. count_by (q x) (y ∷ ys)) xs ≡ count_by (λ x. q x y) xs + sum_by (λ x. count_by (q x) ys) xs
    = sum_split (λ x. cond (q x y) 1 0) (λ x. count_by (q x) ys) (λ x. count_by (q x) (y ∷ ys)) xs (λ x. count_cons (q x) y ys) in
    let head : count_by (λ x. q x y) xs ≤ cond (r y) 1 0 = few y (0, omega arith, refl) in
    let rest : sum_by (λ x. count_by (q x) ys) xs ≤ count_by r ys = pairs_at_most q r xs ys (λ z among. few z (Contains-append_right (y ∷ []) ys z among)) in
    let all : count_by r (y ∷ ys) ≡ cond (r y) 1 0 + count_by r ys = count_cons r y ys in
    omega (arith, split, head, rest, all)

-- tests that agree count alike
pub count_same : {X : Type 0} (p q : X → Bool) (xs : List X) → ((x : X) → p x ≡ q x) → count_by p xs ≡ count_by q xs
count_same p q xs same = λ j. count_by (λ x. same x j) xs

-- a test that holds of one element at most, beside one that is the same for all
pub count_and : {X : Type 0} (p : X → Bool) (b : Bool) (xs : List X) → count_by p xs ≤ 1 → count_by (λ x. p x && b) xs ≤ cond b 1 0
count_and p true xs few = let same = count_same (λ x. p x && true) p xs (λ x. and_true (p x)) in omega (arith, few, same)
count_and p false xs few = let none = count_none (λ x. p x && false) xs (λ x among. and_false (p x)) in omega (arith, none)
