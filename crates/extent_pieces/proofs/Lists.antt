-- What holds of each element of a list, and of each two.
use Rattle.extent_pieces.proofs.Imports.{◌≡◌, zero, suc, List, [], ◌∷◌, ◌++◌, map, arith, subst, ⊎_elim, Contains, All, AllPairs, Any, All-append, AllPairs-cons, all_from_contains, contains_cases, contains_head, contains_tail}

pub pairs_tail : {X : Type 0} (R : X → X → Type 0) (x : X) (xs : List X) → AllPairs R (x ∷ xs) → AllPairs R xs
pairs_tail R x xs pairs = λ i j d order inside. pairs (suc i) (suc j) d (omega arith) (omega arith)

pub pairs_head : {X : Type 0} (R : X → X → Type 0) (x : X) (xs : List X) → AllPairs R (x ∷ xs) → All (R x) xs
pairs_head R x xs pairs = λ k d inside. pairs zero (suc k) d (omega arith) (omega arith)

pub all_tail : {X : Type 0} (P : X → Type 0) (x : X) (xs : List X) → All P (x ∷ xs) → All P xs
all_tail P x xs all = λ k d inside. all (suc k) d (omega arith)

pub all_head : {X : Type 0} (P : X → Type 0) (x : X) (xs : List X) → All P (x ∷ xs) → P x
all_head P x xs all = all zero x (omega arith)

pub all_at : {X : Type 0} (P : X → Type 0) (xs : List X) (x : X) → All P xs → Contains xs x → P x
all_at P xs x all h = subst P h.2 (all h.0 x h.1)

pub all_none : {X : Type 0} (P : X → Type 0) → All P []
all_none P = λ k d inside. absurd (omega arith)

pub all_one : {X : Type 0} (P : X → Type 0) (x : X) (xs : List X) → P x → All P xs → All P (x ∷ xs)
all_one P x xs here all = all_from_contains P (x ∷ xs) (λ y h. ⊎_elim (λ (same : x ≡ y). subst P same here) (λ (later : Contains xs y). all_at P xs y all later) (contains_cases y x xs h))

pub pairs_append : {X : Type 0} (R : X → X → Type 0) (xs ys : List X) → AllPairs R xs → AllPairs R ys → ((x : X) → Contains xs x → All (R x) ys) → AllPairs R (xs ++ ys)
pairs_append R [] ys first second across = second
pairs_append R (x ∷ xs) ys first second across =
    AllPairs-cons R x (xs ++ ys) (All-append (R x) xs ys (pairs_head R x xs first) (across x (contains_head x xs)))
    (pairs_append R xs ys (pairs_tail R x xs first) second (λ z h. across z (contains_tail z x xs h)))

-- the elements of a list that a function is of
pub all_map : {X Y : Type 0} (P : Y → Type 0) (f : X → Y) (xs : List X) → ((x : X) → Contains xs x → P (f x)) → All P (map f xs)
all_map P f [] each = all_none P
all_map P f (x ∷ xs) each = all_one P (f x) (map f xs) (each x (contains_head x xs)) (all_map P f xs (λ y h. each y (contains_tail y x xs h)))

pub pairs_map : {X Y : Type 0} (R : Y → Y → Type 0) (f : X → Y) (xs : List X) → AllPairs (λ a b. R (f a) (f b)) xs → AllPairs R (map f xs)
pairs_map R f [] pairs = λ i j d order inside. absurd (omega arith)
pairs_map R f (x ∷ xs) pairs =
    AllPairs-cons R (f x) (map f xs) (all_map (R (f x)) f xs (λ y h. all_at (λ b. R (f x) (f b)) xs y (pairs_head (λ a b. R (f a) (f b)) x xs pairs) h))
    (pairs_map R f xs (pairs_tail (λ a b. R (f a) (f b)) x xs pairs))

-- an element of which something holds
pub any_from : {X : Type 0} (P : X → Type 0) (xs : List X) (x : X) → Contains xs x → P x → Any P xs
any_from P xs x h is = (h.0, x, h.1, h.2, is)
