-- What is read of items, one of the other.
use Rattle.btr_check_fields.proofs.Imports.{⊎_elim, inl, inr, ◌⊎◌, ◌≡◌, zero, suc, Bool, List, [], ◌∷◌, length, get_or, Option, Some, None, refl, sym, ap, ◌∙◌, arith, Decides, Contains, list_any, is_some, false≢true, Contains-get_or, Item, AreReadOf}
use Rattle.std.specs.List.{All}
use Rattle.std.proofs.lemmas.List.Folds.{Any-from_list_any, list_any-from_Any}

pub at_head : {A : Type 0} (x : A) (xs : List A) → Contains (x ∷ xs) x
at_head x xs = (zero, omega arith, refl)

pub in_tail : {A : Type 0} (x : A) (xs : List A) (y : A) → Contains xs y → Contains (x ∷ xs) y
in_tail x xs y (k, low, is) = (suc k, omega (arith, low), is)

pub head_or_tail : {A : Type 0} (x : A) (xs : List A) (y : A) → Contains (x ∷ xs) y → (x ≡ y) ⊎ Contains xs y
head_or_tail x xs y (zero, low, is) = inl is
head_or_tail x xs y (suc k, low, is) = inr (k, omega (arith, low), is)

pub all_from_contains : {A : Type 0} (P : A → Type 0) (xs : List A) → ((x : A) → Contains xs x → P x) → All P xs
all_from_contains P xs each = λ k d low. each (get_or xs k d) (Contains-get_or xs k d low)

pub some_same : {A : Type 0} (x y : A) → Some x ≡ Some y → x ≡ y
some_same x y e = cc

pub not_none : {A : Type 0} (x : A) → None ≡ Some x → ⊥
not_none x e = false≢true (ap is_some e)

-- a test among some decides that one of them has what it tells
pub decides_some : {A : Type 0} (test : A → Bool) (P : A → Type 0) (xs : List A) → ((x : A) → Contains xs x → Decides (test x) (P x)) → Decides (list_any test xs) ((x : A) × Contains xs x × P x)
decides_some test P xs each = (
  (λ is. let (k, x, low, at, holds) = Any-from_list_any test xs is in (x, (k, low, at), (each x (k, low, at)).0 holds)),
  (λ some. let (x, (k, low, at), holds) = some in list_any-from_Any test xs (k, x, low, at, (each x (k, low, at)).1 holds)),
)

abbrev pub first_or : {A : Type 0} → A → List A → A
first_or d [] = d
first_or d (x ∷ xs) = x

abbrev pub rest_of : {A : Type 0} → List A → List A
rest_of [] = []
rest_of (x ∷ xs) = xs

-- each item was read
pub read_of : {A : Type 0} (read : Item → Option A) (items : List Item) (found : List A) → AreReadOf read items found → (i : Item) → Contains items i → (x : A) × Contains found x × (read i ≡ Some x)
read_of read [] found are i (k, low, is) = absurd (omega (arith, low))
read_of read (j ∷ items) [] are i h = absurd (omega (arith, ap length are))
read_of {A} read (j ∷ items) (x ∷ found) are i h =
    ⊎_elim
    (λ (here : j ≡ i). (x, at_head x found, ap read (sym here) ∙ ap (first_or None) are))
    (λ (there : Contains items i). let (y, c, is) = read_of read items found (ap rest_of are) i there in (y, in_tail x found y c, is))
    (head_or_tail j items i h)

-- and each thing was read of an item
pub of_item : {A : Type 0} (read : Item → Option A) (items : List Item) (found : List A) → AreReadOf read items found → (x : A) → Contains found x → (i : Item) × Contains items i × (read i ≡ Some x)
of_item read items [] are x (k, low, is) = absurd (omega (arith, low))
of_item read [] (y ∷ found) are x h = absurd (omega (arith, ap length are))
of_item {A} read (j ∷ items) (y ∷ found) are x h =
    ⊎_elim
    (λ (here : y ≡ x). (j, at_head j items, ap (first_or None) are ∙ ap Some here))
    (λ (there : Contains found x). let (i, c, is) = of_item read items found (ap rest_of are) x there in (i, in_tail j items i c, is))
    (head_or_tail y found x h)
