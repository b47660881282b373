-- Tests of objects, names and paths.
use Rattle.fs_paths.proofs.Imports.{◌≡◌, ℕ, ◌==◌, Bool, true, false, ◌&&◌, nat_eq, List, [], ◌∷◌, ◌++◌, refl, sym, ap, ◌∙◌, true≢false, arith, pointwise, eqb-true, and_parts, nat_tests, NodeId, same_node}
use Rattle.fs_paths.proofs.Counts.{and_true, and_false}

pub same_node-true : (a b : NodeId) → same_node a b ≡ true → a ≡ b
same_node-true a b is =
    let parts = and_parts (a.space == b.space) (a.number == b.number) is in
    let space : a.space ≡ b.space = eqb-true a.space b.space parts.0 in
    let number : a.number ≡ b.number = eqb-true a.number b.number parts.1 in
    λ j. record { space = space j; number = number j }

pub same_node-self : (a : NodeId) → same_node a a ≡ true
same_node-self a = grind (arith, nat_tests)

-- lists of equal length whose elements are the same, where the test decides that
pub pointwise-true : {X : Type 0} (E : X → X → Bool) → ((x y : X) → E x y ≡ true → x ≡ y) → (xs ys : List X) → pointwise E xs ys ≡ true → xs ≡ ys
pointwise-true E same [] [] is = refl
pointwise-true E same [] (y ∷ ys) is = absurd (true≢false (sym is))
pointwise-true E same (x ∷ xs) [] is = absurd (true≢false (sym is))
pointwise-true E same (x ∷ xs) (y ∷ ys) is =
    let parts = and_parts (E x y) (pointwise E xs ys) is in
    let head = same x y parts.0 in
    let tail = pointwise-true E same xs ys parts.1 in
    λ j. head j ∷ tail j

pub same_name-true : (m n : List ℕ) → pointwise nat_eq m n ≡ true → m ≡ n
same_name-true = pointwise-true nat_eq eqb-true

-- a list with one element more is not empty
pub push_not_nil : {X : Type 0} (E : X → X → Bool) (xs : List X) (x : X) → pointwise E (xs ++ x ∷ []) [] ≡ false
push_not_nil E [] x = refl
push_not_nil E (y ∷ xs) x = refl

pub nil_not_push : {X : Type 0} (E : X → X → Bool) (ys : List X) (y : X) → pointwise E [] (ys ++ y ∷ []) ≡ false
nil_not_push E [] y = refl
nil_not_push E (z ∷ ys) y = refl

and_assoc : (a b c : Bool) → (a && (b && c)) ≡ ((a && b) && c)
and_assoc true b c = refl
and_assoc false b c = refl

-- the last of three tests before the second
pub and_turn : (a b c : Bool) → (a && (b && c)) ≡ ((a && c) && b)
and_turn true b true = and_true b
and_turn true b false = and_false b
and_turn false b c = refl

-- two lists with one element more each
pub push_push : {X : Type 0} (E : X → X → Bool) (xs ys : List X) (x y : X) → pointwise E (xs ++ x ∷ []) (ys ++ y ∷ []) ≡ (pointwise E xs ys && E x y)
push_push E [] [] x y = and_true (E x y)
push_push E [] (z ∷ ys) x y = ap (λ (b : Bool). E x z && b) (nil_not_push E ys y) ∙ and_false (E x z)
push_push E (z ∷ xs) [] x y = ap (λ (b : Bool). E z y && b) (push_not_nil E xs x) ∙ and_false (E z y)
push_push E (z ∷ xs) (w ∷ ys) x y = ap (λ (b : Bool). E z w && b) (push_push E xs ys x y) ∙ and_assoc (E z w) (pointwise E xs ys) (E x y)

-- a list is empty, or another one with an element more
pub data Pushed {X : Type 0} : List X → Type 0 where
  empty : Pushed []
  more : (xs : List X) (x : X) → Pushed (xs ++ x ∷ [])

pub pushed : {X : Type 0} (xs : List X) → Pushed xs
pushed [] = empty
pushed {X} (x ∷ xs) = by xs (pushed xs)
  where
    by : (ys : List X) → Pushed ys → Pushed (x ∷ ys)
    by _ empty = more [] x
    by _ (more zs z) = more (x ∷ zs) z
