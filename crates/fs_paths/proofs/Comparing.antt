-- The order of paths, name by name.
use Rattle.fs_paths.proofs.Imports.{◌≡◌, ℕ, zero, suc, ◌+◌, ◌<◌, ◌≤◌, true, false, List, [], ◌∷◌, get_or, slice_get, Some, drop, length, Ordering, Less, Equal, Greater, nat_cmp, refl, sym, ap, ◌∙◌, true≢false, arith, ordering_then, is_ne, path_cmp, slice_cmp, drop_more, nat_tests}
use Rattle.std.proofs.lemmas.Option.{slice_get_within, get_or_from_slice_get}

nat_cmp_suc : (a b : ℕ) → nat_cmp a b ≡ nat_cmp (suc a) (suc b)
nat_cmp_suc a b = grind (arith, nat_tests)

module _ {X : Type 0} (R : X → X → Ordering) where
  -- one more element of both, of which the first differ or not
  pub cmp_step : (xs ys : List X) (i : ℕ) (x y : X) → i < length xs → i < length ys → get_or xs i x ≡ x → get_or ys i y ≡ y
      → slice_cmp R (drop i xs) (drop i ys) ≡ ordering_then (R x y) (slice_cmp R (drop (i + 1) xs) (drop (i + 1) ys))
  cmp_step xs ys i x y left right at_x at_y =
      ap (λ (t : List X). slice_cmp R t (drop i ys)) (drop_more xs i x left ∙ ap (λ (z : X). z ∷ drop (i + 1) xs) at_x)
      ∙ ap (λ (t : List X). slice_cmp R (x ∷ drop (i + 1) xs) t) (drop_more ys i y right ∙ ap (λ (z : X). z ∷ drop (i + 1) ys) at_y)

  -- where one has no more elements
  pub cmp_end : (i : ℕ) (xs ys : List X) → i ≤ length xs → i ≤ length ys → (i < length xs → i < length ys → ⊥) → slice_cmp R (drop i xs) (drop i ys) ≡ nat_cmp (length xs) (length ys)
  cmp_end zero [] [] left right ended = refl
  cmp_end zero [] (y ∷ ys) left right ended = grind (arith, nat_tests)
  cmp_end zero (x ∷ xs) [] left right ended = grind (arith, nat_tests)
  cmp_end zero (x ∷ xs) (y ∷ ys) left right ended = absurd (ended (omega arith) (omega arith))
  cmp_end (suc i) [] ys left right ended = absurd (omega arith)
  cmp_end (suc i) (x ∷ xs) [] left right ended = absurd (omega arith)
  cmp_end (suc i) (x ∷ xs) (y ∷ ys) left right ended =
      cmp_end i xs ys (omega arith) (omega arith) (λ more_left more_right. ended (omega arith) (omega arith)) ∙ nat_cmp_suc (length xs) (length ys)

pub then_other : (o p : Ordering) → is_ne o ≡ true → ordering_then o p ≡ o
then_other Less p other = refl
then_other Equal p other = absurd (true≢false (sym other))
then_other Greater p other = refl

pub then_same : (o p : Ordering) → is_ne o ≡ false → ordering_then o p ≡ p
then_same Less p same = absurd (true≢false same)
then_same Equal p same = refl
then_same Greater p same = absurd (true≢false same)

-- The same of names, where `order` is that of the next two.
module _ (a b : List (List ℕ)) (i : ℕ) (x y : List ℕ) (order : Ordering) (at_x : slice_get a i ≡ Some x) (at_y : slice_get b i ≡ Some y) (is : order ≡ slice_cmp nat_cmp x y) where
  step : path_cmp (drop i a) (drop i b) ≡ ordering_then order (path_cmp (drop (i + 1) a) (drop (i + 1) b))
  step =
      cmp_step (slice_cmp nat_cmp) a b i x y (slice_get_within a i x at_x) (slice_get_within b i y at_y) (get_or_from_slice_get a i x x at_x) (get_or_from_slice_get b i y y at_y)
      ∙ ap (λ (o : Ordering). ordering_then o (path_cmp (drop (i + 1) a) (drop (i + 1) b))) (sym is)

  pub names_differ : is_ne order ≡ true → path_cmp (drop i a) (drop i b) ≡ path_cmp a b → order ≡ path_cmp a b
  names_differ other so_far = sym (then_other order (path_cmp (drop (i + 1) a) (drop (i + 1) b)) other) ∙ (sym step ∙ so_far)

  pub names_agree : is_ne order ≡ false → path_cmp (drop i a) (drop i b) ≡ path_cmp a b → path_cmp (drop (i + 1) a) (drop (i + 1) b) ≡ path_cmp a b
  names_agree same so_far = sym (then_same order (path_cmp (drop (i + 1) a) (drop (i + 1) b)) same) ∙ (sym step ∙ so_far)
