-- The run from a number on, and the first number of a set beside another one.
use Rattle.number_runs.proofs.Imports.{◌≡◌, ◌≤◌, ◌<◌, ℕ, ◌+◌, max, Bool, true, false, not, ◌&&◌, ◌||◌, leb, List, [], ◌∷◌, length, get_or, take, Option, Some, None, refl, sym, ap, ◌∙◌, subst, inl, inr, ⊎_elim, ◌⊎◌, arith, All, IsNonDecreasingBy, IsPartitionPoint, nat_tests, get_or-take, get_or_default, length-take, All-from_get_or, Any-from_list_any, list_any_at, list_any_more, list_any_none, AreParted, EndsBelow, HasNumbers, IsFirst, IsRunFrom, StandsFrom, is_among, is_in, Run}
use Rattle.std.proofs.lemmas.Bool.{cases_lt, false≢true}

not_in : (r : Run) (n : ℕ) → (r.first ≤ n → n ≤ r.last → ⊥) → is_in r n ≡ false
not_in r n out = grind (arith, nat_tests)

is_inside : (r : Run) (n : ℕ) → r.first ≤ n → n ≤ r.last → is_in r n ≡ true
is_inside r n low high = grind (arith, nat_tests)

-- a number that is in none of these runs
not_among : (runs : List Run) (d : Run) (n : ℕ) → ((k : ℕ) → k < length runs → (get_or runs k d).first ≤ n → n ≤ (get_or runs k d).last → ⊥) → is_among runs n ≡ false
not_among runs d n out = list_any_none (λ r. is_in r n) runs (All-from_get_or (λ r. is_in r n ≡ false) runs d (λ k low. not_in (get_or runs k d) n (out k low)))

-- the runs before one end below it, and those behind begin behind it
beside : (runs : List Run) (i k : ℕ) (d : Run) → AreParted runs → i < length runs → k < length runs
    → ((get_or runs k d).last + 1 < (get_or runs i d).first) ⊎ ((k ≡ i) ⊎ ((get_or runs i d).last + 1 < (get_or runs k d).first))
beside runs i k d are low at =
    ⊎_elim
    (λ (before : k < i). inl (are.apart k i d before low))
    (λ (not_before : i ≤ k). inr (⊎_elim
    (λ (behind : i < k). inr (are.apart i k d behind at))
    (λ (not_behind : k ≤ i). inl (omega (arith, not_before, not_behind)))
    (cases_lt i k)))
    (cases_lt k i)

-- the first i runs end below a number, and the others do not
abbrev pub IsPlaceOf : List Run → ℕ → ℕ → Type 0
IsPlaceOf runs n i = IsPartitionPoint (λ r. r.last < n) (λ r. n ≤ r.last) runs i

pub lasts_ascend : (runs : List Run) → AreParted runs → IsNonDecreasingBy (λ r. r.last) runs
lasts_ascend runs are i j d order high =
    ⊎_elim
    (λ (before : i < j). omega (arith, are.apart i j d before high, are.some j d high))
    (λ (behind : j ≤ i). let same : i ≡ j = omega (arith, order, behind) in subst (λ k. (get_or runs i d).last ≤ (get_or runs k d).last) same (omega arith))
    (cases_lt i j)

pub none_from : (runs : List Run) (n i : ℕ) → IsPlaceOf runs n i → length runs ≤ i → (m : ℕ) → n ≤ m → is_among runs m ≡ false
none_from runs n i is past m high =
    let d : Run = record { first = 0; last = 0 } in
    not_among runs d m (λ k low first last. omega (arith, is.0 k d (omega arith) (omega (arith, low, past)), high, last))

pub run_from : (runs : List Run) (n i : ℕ) (d : Run) → AreParted runs → IsPlaceOf runs n i → i < length runs → IsRunFrom (is_among runs) n (get_or runs i d)
run_from runs n i d are is low =
    let some : (get_or runs i d).first ≤ (get_or runs i d).last = are.some i d low in
    record {
      behind = (is.1 i d (omega arith) low, some);
      between = λ m from below. not_among runs d m (λ k at first last.
          ⊎_elim
          (λ (before : k < i). omega (arith, is.0 k d (omega arith) before, from, last))
          (λ (not_before : i ≤ k). ⊎_elim
          (λ (behind : i < k). omega (arith, are.apart i k d behind at, some, below, first))
          (λ (not_behind : k ≤ i). let same : k ≡ i = omega (arith, not_before, not_behind) in omega (arith, below, subst (λ j. (get_or runs j d).first ≤ m) same first))
          (cases_lt i k))
          (cases_lt k i));
      all = λ m first last. list_any_at (λ r. is_in r m) runs i d low (is_inside (get_or runs i d) m first last);
      ends = not_among runs d ((get_or runs i d).last + 1) (λ k at first last.
          ⊎_elim
          (λ (before : (get_or runs k d).last + 1 < (get_or runs i d).first). omega (arith, before, some, last))
          (λ (other : (k ≡ i) ⊎ ((get_or runs i d).last + 1 < (get_or runs k d).first)). ⊎_elim
          (λ (same : k ≡ i). omega (arith, subst (λ j. (get_or runs i d).last + 1 ≤ (get_or runs j d).last) same last))
          (λ (behind : (get_or runs i d).last + 1 < (get_or runs k d).first). omega (arith, behind, first))
          other)
          (beside runs i k d are low at));
    }

-- ---- tests of numbers

and_false : (a b : Bool) → (a ≡ true → b ≡ false) → (a && b) ≡ false
and_false true b never = never refl
and_false false b never = refl

both_true : (a b : Bool) → a ≡ true → b ≡ true → (a && b) ≡ true
both_true true b x y = y
both_true false b x y = x

first_true : (a b : Bool) → (a && b) ≡ true → a ≡ true
first_true true b is = refl
first_true false b is = is

second_true : (a b : Bool) → (a && b) ≡ true → b ≡ true
second_true true b is = is
second_true false b is = absurd (false≢true is)

second_false : (a b : Bool) → a ≡ true → (a && b) ≡ false → b ≡ false
second_false true b is none = none
second_false false b is none = absurd (false≢true is)

in_first : (r : Run) (n : ℕ) → is_in r n ≡ true → r.first ≤ n
in_first r n is = grind (arith, nat_tests)

in_last : (r : Run) (n : ℕ) → is_in r n ≡ true → n ≤ r.last
in_last r n is = grind (arith, nat_tests)

-- ---- a set, run by run

pub record IsFirstBelow (runs : List Run) (keep : ℕ → Bool) (i : ℕ) : Type 0 where
  pub none : (n : ℕ) → (is_among (take i runs) n && keep n) ≡ false

or_and : (a b c : Bool) → (a && c) ≡ false → (b && c) ≡ false → ((a || b) && c) ≡ false
or_and true b c x y = x
or_and false b c x y = y

pub none_more : (runs : List Run) (keep : ℕ → Bool) (i : ℕ) (d : Run) → i < length runs → IsFirstBelow runs keep i
    → ((n : ℕ) → (is_in (get_or runs i d) n && keep n) ≡ false) → IsFirstBelow runs keep (i + 1)
none_more runs keep i d low is here = record { none = λ n. rw (list_any_more (λ r. is_in r n) runs i d low) (or_and (is_among (take i runs) n) (is_in (get_or runs i d) n) (keep n) (is.none n) (here n)) }

pub found_first : (runs : List Run) (keep : ℕ → Bool) (i n : ℕ) (d : Run) → AreParted runs → i < length runs → IsFirstBelow runs keep i
    → IsFirst (λ m. is_in (get_or runs i d) m && keep m) (Some n) → IsFirst (λ m. is_among runs m && keep m) (Some n)
found_first runs keep i n d are low is (here, before) =
    let inside : is_in (get_or runs i d) n ≡ true = first_true (is_in (get_or runs i d) n) (keep n) here in
    let last : n ≤ (get_or runs i d).last = in_last (get_or runs i d) n inside in (
      both_true _ _ (list_any_at (λ r. is_in r n) runs i d low inside) (second_true (is_in (get_or runs i d) n) (keep n) here),
      λ m below. and_false (is_among runs m) (keep m) (λ among.
          let (k, x, high, at, holds) = Any-from_list_any (λ r. is_in r m) runs among in
          let own : is_in (get_or runs k d) m ≡ true = subst (λ r. is_in r m ≡ true) (sym (get_or_default runs k d x high ∙ at)) holds in
          ⊎_elim
          (λ (front : k < i). second_false (is_among (take i runs) m) (keep m) (list_any_at (λ r. is_in r m) (take i runs) k d (omega (arith, length-take i runs, front, low)) (subst (λ r. is_in r m ≡ true) (sym (get_or-take i runs k d front)) own)) (is.none m))
          (λ (not_front : i ≤ k). ⊎_elim
          (λ (behind : i < k). absurd (omega (arith, are.apart i k d behind high, last, below, in_first (get_or runs k d) m own)))
          (λ (not_behind : k ≤ i). let same : k ≡ i = omega (arith, not_front, not_behind) in second_false (is_in (get_or runs i d) m) (keep m) (subst (λ j. is_in (get_or runs j d) m ≡ true) same own) (before m below))
          (cases_lt i k))
          (cases_lt k i)),
    )
