-- Sets of numbers as runs: one run more, and runs that do not touch.
use Rattle.number_runs.proofs.Imports.{◌≡◌, ◌≤◌, ◌<◌, ℕ, ◌+◌, max, Bool, true, false, ◌||◌, cond, leb, List, [], ◌∷◌, ◌++◌, length, get_or, refl, sym, ap, ◌∙◌, subst, arith, length-append, All, AllPairs, nat_tests, get_or_append_left, get_or_push, length_push, All-push, All-weaker, list_any-append, AreParted, EndsBelow, HasNumbers, is_among, is_in, Run}
use Rattle.std.proofs.lemmas.List.Quantifiers.{all_pairs_push}

or_false : (b : Bool) → (b || false) ≡ b
or_false true = refl
or_false false = refl

pub or_assoc : (a b c : Bool) → (a || (b || c)) ≡ ((a || b) || c)
or_assoc true b c = refl
or_assoc false b c = refl

-- one run more
pub among_push : (runs : List Run) (r : Run) (n : ℕ) → is_among (runs ++ r ∷ []) n ≡ (is_among runs n || is_in r n)
among_push runs r n = list_any-append (λ s. is_in s n) runs (r ∷ []) ∙ ap (λ b. is_among runs n || b) (or_false (is_in r n))

-- two runs that touch are one
pub in_joined : (r x : Run) (last n : ℕ) → r.first ≤ x.first → x.first ≤ r.last + 1 → last ≡ max r.last x.last → is_in (record { first = r.first; last = last }) n ≡ (is_in r n || is_in x n)
in_joined r x last n low touch top = grind (arith, nat_tests)

-- what is parted, with one run more behind it
pub record IsPartedBefore (runs : List Run) (r : Run) : Type 0 where
  pub parted : AreParted runs
  pub some : HasNumbers r
  pub below : All (λ s. EndsBelow s r) runs

pub parted_push : (runs : List Run) (r : Run) → IsPartedBefore runs r → AreParted (runs ++ r ∷ [])
parted_push runs r is = record {
  some = All-push HasNumbers runs r is.parted.some is.some;
  apart = all_pairs_push EndsBelow runs r is.parted.apart is.below;
}

pub parted_before : (runs : List Run) (r : Run) → AreParted (runs ++ r ∷ []) → IsPartedBefore runs r
parted_before runs r are =
    let longer : length (runs ++ r ∷ []) ≡ length runs + 1 = length_push runs r in
    record {
      parted = record {
        some = λ k d low. subst HasNumbers (get_or_append_left runs (r ∷ []) d k low) (are.some k d (omega (arith, low, longer)));
        apart = λ i j d low high.
            subst (λ s. EndsBelow s (get_or runs j d)) (get_or_append_left runs (r ∷ []) d i (omega (arith, low, high)))
            (subst (λ s. EndsBelow (get_or (runs ++ r ∷ []) i d) s) (get_or_append_left runs (r ∷ []) d j high) (are.apart i j d low (omega (arith, high, longer))));
      };
      some = subst HasNumbers (get_or_push runs r r (length runs) refl) (are.some (length runs) r (omega (arith, longer)));
      below = λ k d low.
          subst (λ s. EndsBelow s r) (get_or_append_left runs (r ∷ []) d k low)
          (subst (λ s. EndsBelow (get_or (runs ++ r ∷ []) k d) s) (get_or_push runs r d (length runs) refl) (are.apart k (length runs) d low (omega (arith, longer))));
    }

-- what lies below a run lies below those that this one lies below
pub below_push : (runs : List Run) (r x : Run) → IsPartedBefore runs r → r.last + 1 < x.first → All (λ s. EndsBelow s x) (runs ++ r ∷ [])
below_push runs r x is low =
    let some : r.first ≤ r.last = is.some in
    All-push (λ s. EndsBelow s x) runs r (All-weaker (λ s. EndsBelow s r) (λ s. EndsBelow s x) (λ s l. omega (arith, l, low, some)) runs is.below) low
