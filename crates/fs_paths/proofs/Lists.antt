-- Members of lists that are made of others.
use Rattle.fs_paths.proofs.Imports.{◌≡◌, ℕ, zero, suc, ◌<◌, Bool, true, false, cond, List, [], ◌∷◌, map, length, get_or, filter, flat_map, Contains, ◌⊎◌, inl, inr, ⊎_elim, refl, sym, ap, subst, ◌∙◌, true≢false, arith, length-map, get_or-map, All-filter, All-contains_itself, Contains-append_left, Contains-append_right, Contains-append_cases, filter_passes}

pub at_head : {X : Type 0} (x : X) (xs : List X) → Contains (x ∷ xs) x
at_head x xs = (0, omega arith, refl)

pub in_tail : {X : Type 0} (x : X) (xs : List X) (y : X) → Contains xs y → Contains (x ∷ xs) y
in_tail x xs y among = Contains-append_right (x ∷ []) xs y among

-- the first element or a later one
pub head_or_tail : {X : Type 0} (x : X) (xs : List X) (y : X) → Contains (x ∷ xs) y → (x ≡ y) ⊎ Contains xs y
head_or_tail {X} x xs y among = by among.0 among.1 among.2
  where
    by : (k : ℕ) → k < length (x ∷ xs) → get_or (x ∷ xs) k y ≡ y → (x ≡ y) ⊎ Contains xs y
    by zero within is = inl is
    by (suc k) within is = inr (k, omega arith, is)

pub in_map : {X Y : Type 0} (f : X → Y) (xs : List X) (x : X) → Contains xs x → Contains (map f xs) (f x)
in_map f xs x among = let long = length-map xs f in (among.0, omega (arith, among.1, long), get_or-map f xs among.0 x (f x) among.1 ∙ ap f among.2)

pub in_filter : {X : Type 0} (p : X → Bool) (xs : List X) (x : X) → Contains xs x → p x ≡ true → Contains (filter p xs) x
in_filter p [] x among passes = among
in_filter {X} p (y ∷ xs) x among passes = ⊎_elim (λ first. here first (p y) refl) (λ later. there (in_filter p xs x later passes) (p y) refl) (head_or_tail y xs x among)
  where
    here : y ≡ x → (b : Bool) → p y ≡ b → Contains (filter p (y ∷ xs)) x
    here first true is = subst (λ (b : Bool). Contains (cond b (y ∷ filter p xs) (filter p xs)) x) (sym is) (0, omega arith, first)
    here first false is = absurd (true≢false (sym passes ∙ (ap p (sym first) ∙ is)))

    there : Contains (filter p xs) x → (b : Bool) → p y ≡ b → Contains (filter p (y ∷ xs)) x
    there kept true is = subst (λ (b : Bool). Contains (cond b (y ∷ filter p xs) (filter p xs)) x) (sym is) (Contains-append_right (y ∷ []) (filter p xs) x kept)
    there kept false is = subst (λ (b : Bool). Contains (cond b (y ∷ filter p xs) (filter p xs)) x) (sym is) kept

pub in_flat_map : {X Y : Type 0} (f : X → List Y) (xs : List X) (x : X) (y : Y) → Contains xs x → Contains (f x) y → Contains (flat_map f xs) y
in_flat_map f [] x y among inner = absurd (omega (arith, among.1))
in_flat_map f (z ∷ xs) x y among inner =
    ⊎_elim (λ first. Contains-append_left (f z) (flat_map f xs) y (subst (λ w. Contains (f w) y) (sym first) inner)) (λ later. Contains-append_right (f z) (flat_map f xs) y (in_flat_map f xs x y later inner)) (head_or_tail z xs x among)

-- an element of what is made of a list is made of one of its elements
pub from_map : {X Y : Type 0} (f : X → Y) (xs : List X) (y : Y) → Contains (map f xs) y → (x : X) × Contains xs x × (f x ≡ y)
from_map f [] y among = absurd (omega (arith, among.1))
from_map f (x ∷ xs) y among =
    ⊎_elim (λ first. (x, at_head x xs, first)) (λ later. let r = from_map f xs y later in (r.0, in_tail x xs r.0 r.1, r.2)) (head_or_tail (f x) (map f xs) y among)

pub from_filter : {X : Type 0} (p : X → Bool) (xs : List X) (x : X) → Contains (filter p xs) x → Contains xs x × (p x ≡ true)
from_filter p xs x among =
    (subst (Contains xs) among.2 (All-filter p (Contains xs) xs (All-contains_itself xs) among.0 x among.1), subst (λ y. p y ≡ true) among.2 (filter_passes p xs among.0 x among.1))

pub from_flat_map : {X Y : Type 0} (f : X → List Y) (xs : List X) (y : Y) → Contains (flat_map f xs) y → (x : X) × Contains xs x × Contains (f x) y
from_flat_map f [] y among = absurd (omega (arith, among.1))
from_flat_map f (x ∷ xs) y among =
    ⊎_elim (λ first. (x, at_head x xs, first)) (λ later. let r = from_flat_map f xs y later in (r.0, in_tail x xs r.0 r.1, r.2)) (Contains-append_cases (f x) (flat_map f xs) y among)
