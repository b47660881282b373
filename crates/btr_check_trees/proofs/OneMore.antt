-- Items with one more, by what is made of them.
use Rattle.btr_check_trees.proofs.Imports.{◌≡◌, ℕ, Bool, true, false, cond, List, [], ◌∷◌, ◌++◌, map, filter, ap, ◌∙◌, ◌==◌, subst, sym, flat_map, Contains, append-nil, map-append, flat_map-append, Contains-append_left, Contains-append_right, filter-append, at_head, Item, TreeItem, bare_item, of_kind}

-- an element that passes a test
abbrev pub one_if : {A : Type 0} → Bool → A → List A
one_if b x = cond b (x ∷ []) []

pub flat_more : {A B : Type 0} (f : A → List B) (xs : List A) (x : A) → flat_map f (xs ++ x ∷ []) ≡ flat_map f xs ++ f x
flat_more {A} {B} f xs x = flat_map-append f xs (x ∷ []) ∙ ap (λ (l : List B). flat_map f xs ++ l) (append-nil (f x))

pub filter_more : {A : Type 0} (p : A → Bool) (xs : List A) (x : A) → filter p (xs ++ x ∷ []) ≡ filter p xs ++ one_if (p x) x
filter_more p xs x = filter-append p xs (x ∷ [])

-- ---- of a kind

pub same_kind : (kind : ℕ) (items : List Item) (i : Item) → (i.0.kind == kind) ≡ false → of_kind kind (items ++ i ∷ []) ≡ of_kind kind items
same_kind kind items i other =
    filter_more (λ (j : Item). j.0.kind == kind) items i ∙ (ap (λ (b : Bool). of_kind kind items ++ one_if b i) other ∙ append-nil (of_kind kind items))

pub more_kind : (kind : ℕ) (items : List Item) (i : Item) → (i.0.kind == kind) ≡ true → of_kind kind (items ++ i ∷ []) ≡ of_kind kind items ++ i ∷ []
more_kind kind items i own = filter_more (λ (j : Item). j.0.kind == kind) items i ∙ ap (λ (b : Bool). of_kind kind items ++ one_if b i) own

-- ---- of a tree

pub bare_more : (items : List TreeItem) (i : TreeItem) → map bare_item (items ++ i ∷ []) ≡ map bare_item items ++ bare_item i ∷ []
bare_more items i = map-append bare_item items (i ∷ [])

-- the last one is among them
pub last_among : (items : List TreeItem) (i : TreeItem) → Contains (map bare_item (items ++ i ∷ [])) (bare_item i)
last_among items i =
    subst (λ (l : List Item). Contains l (bare_item i)) (sym (bare_more items i)) (Contains-append_right (map bare_item items) (bare_item i ∷ []) (bare_item i) (at_head (bare_item i) []))

-- what is among the first ones is among all
pub first_among : (items first later : List TreeItem) (i : Item) → items ≡ first ++ later → Contains (map bare_item first) i → Contains (map bare_item items) i
first_among items first later i are h =
    subst (λ (l : List TreeItem). Contains (map bare_item l) i) (sym are)
    (subst (λ (l : List Item). Contains l i) (sym (map-append bare_item first later)) (Contains-append_left (map bare_item first) (map bare_item later) i h))
