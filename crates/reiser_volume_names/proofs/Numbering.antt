-- How many keys stand before one in a sorted list.
use Rattle.reiser_volume_names.proofs.Imports.{◌≡◌, ℕ, zero, suc, ◌+◌, Bool, true, false, cond, not, ◌&&◌, ◌||◌, List, [], ◌∷◌, get_or, count_by, Some, None, refl, sym, ap, subst, ◌∙◌, true≢false, if◌then◌else◌, arith, slice_get, position, list_any, IsDistinct, AllByRecursion, IsStrictlySortedBy, is_eq, is_lt, ordering_reverse, sum_by-cons, position-Some, slice_get-get_or, ObjectKey, same_key, root, same_key-true, same_key-self, object_cmp}
use Rattle.std.specs.declared.cmp.Ordering.{Ordering}
use Rattle.std.specs.declared.cmp.Ordering.TheVariants.{Less, Equal, Greater}
use Rattle.reiser_volume_names.proofs.Tabling.{object_ties, object_total}
use Rattle.reiser_volume_names.proofs.Uniqueness.{flips}

abbrev before : ObjectKey → ObjectKey → Bool
before key k = is_lt (object_cmp k key)

not_less : (o : Ordering) → is_eq o ≡ true → is_lt o ≡ false
not_less Less is = absurd (true≢false (sym is))
not_less Equal is = refl
not_less Greater is = refl

-- no key is before itself
not_self : (key : ObjectKey) → before key key ≡ false
not_self key = not_less (object_cmp key key) (sym (object_ties key key) ∙ same_key-self key)

-- nor one that is behind
not_behind : (key k : ObjectKey) → object_cmp key k ≡ Less → before key k ≡ false
not_behind key k less = ap is_lt (object_total.antisymm k key ∙ ap ordering_reverse less)

none_before : (key : ObjectKey) (ks : List ObjectKey) → AllByRecursion (λ k. object_cmp key k ≡ Less) ks → count_by (before key) ks ≡ 0
none_before key [] all = refl
none_before key (k ∷ ks) all = sum_by-cons (λ x. cond (before key x) 1 0) k ks ∙ (ap (λ (b : Bool). cond b 1 0 + count_by (before key) ks) (not_behind key k all.0) ∙ ap (λ (n : ℕ). 0 + n) (none_before key ks all.1))

at_place : (P : ObjectKey → Type 0) (ks : List ObjectKey) (i : ℕ) (key : ObjectKey) → AllByRecursion P ks → slice_get ks i ≡ Some key → P key
at_place P [] i key all there = let never : None ≡ Some key = there in absurd cc
at_place P (k ∷ ks) zero key all there = let same : k ≡ key = cc in subst P same all.0
at_place P (k ∷ ks) (suc i) key all there = at_place P ks i key all.1 there

-- a key has as many keys before it as its place says
pub place_counts : (ks : List ObjectKey) (i : ℕ) (key : ObjectKey) → IsStrictlySortedBy object_cmp ks → slice_get ks i ≡ Some key → count_by (before key) ks ≡ i
unfolding IsStrictlySortedBy
place_counts [] i key sorted there = let never : None ≡ Some key = there in absurd cc
place_counts (k ∷ ks) zero key sorted there =
    let same : k ≡ key = cc in
    sum_by-cons (λ x. cond (before key x) 1 0) k ks
    ∙ (ap (λ (b : Bool). cond b 1 0 + count_by (before key) ks) (ap (before key) same ∙ not_self key)
    ∙ ap (λ (n : ℕ). 0 + n) (none_before key ks (subst (λ (x : ObjectKey). AllByRecursion (λ y. object_cmp x y ≡ Less) ks) same sorted.0)))
place_counts (k ∷ ks) (suc i) key sorted there =
    let less : object_cmp k key ≡ Less = at_place (λ y. object_cmp k y ≡ Less) ks i key sorted.0 there in
    let rest = place_counts ks i key sorted.1 there in
    let whole = sum_by-cons (λ x. cond (before key x) 1 0) k ks ∙ ap (λ (b : Bool). cond b 1 0 + count_by (before key) ks) (ap is_lt less) in
    omega (arith, whole, rest)

abbrev one : Bool → ℕ
one b = cond b 1 0

module _ (p : ObjectKey → Bool) where
  abbrev below : ObjectKey → Bool
  below k = p k && not (same_key k root)

  step : (q : ObjectKey → Bool) (k : ObjectKey) (ks : List ObjectKey) → count_by q (k ∷ ks) ≡ one (q k) + count_by q ks
  step q k ks = sum_by-cons (λ x. one (q x)) k ks

  own : (b : Bool) → one (b && false) ≡ 0
  own true = refl
  own false = refl

  -- where the root is not among the keys, nothing is left out
  without : (ks : List ObjectKey) → list_any (same_key root) ks ≡ false → count_by below ks ≡ count_by p ks
  without [] none = refl
  without (k ∷ ks) none = by (same_key root k) (list_any (same_key root) ks) refl refl (without ks) none
    where
      kept : (b : Bool) → one (b && true) ≡ one b
      kept true = refl
      kept false = refl

      by : (a b : Bool) → same_key root k ≡ a → list_any (same_key root) ks ≡ b → (list_any (same_key root) ks ≡ false → count_by below ks ≡ count_by p ks) → (a || b) ≡ false → count_by below (k ∷ ks) ≡ count_by p (k ∷ ks)
      by false false other rest less is =
          step below k ks
          ∙ (ap (λ (s : Bool). one (p k && not s) + count_by below ks) (flips k root ∙ other)
          ∙ (ap (λ (n : ℕ). n + count_by below ks) (kept (p k)) ∙ (ap (λ (n : ℕ). one (p k) + n) (less rest) ∙ sym (step p k ks))))
      by true b other rest less is = absurd (true≢false is)
      by false true other rest less is = absurd (true≢false is)

  absent : (k : ObjectKey) (ks : List ObjectKey) → k ≡ root → AllByRecursion (λ y. same_key k y ≡ false) ks → list_any (same_key root) ks ≡ false
  absent k [] same apart = refl
  absent k (y ∷ ks) same apart = ap (λ (b : Bool). b || list_any (same_key root) ks) (ap (λ (x : ObjectKey). same_key x y) (sym same) ∙ apart.0) ∙ absent k ks same apart.1

  -- the keys that pass, but for the root, and the root
  pub root_apart : (ks : List ObjectKey) → IsDistinct same_key ks → count_by below ks + one (list_any (same_key root) ks && p root) ≡ count_by p ks
  unfolding IsDistinct
  root_apart [] apart = refl
  root_apart (k ∷ ks) apart = by (same_key root k) refl (root_apart ks apart.1)
    where
      by : (b : Bool) → same_key root k ≡ b → count_by below ks + one (list_any (same_key root) ks && p root) ≡ count_by p ks
          → count_by below (k ∷ ks) + one ((same_key root k || list_any (same_key root) ks) && p root) ≡ count_by p (k ∷ ks)
      by true is rest =
          let same : root ≡ k = same_key-true root k is in
          let first = step below k ks ∙ (ap (λ (s : Bool). one (p k && not s) + count_by below ks) (flips k root ∙ is) ∙ ap (λ (n : ℕ). n + count_by below ks) (own (p k))) in
          let others = without ks (absent k ks (sym same) apart.0) in
          let there = ap (λ (b : Bool). one ((b || list_any (same_key root) ks) && p root)) is ∙ ap (λ (x : ObjectKey). one (p x)) same in
          let all = step p k ks in
          omega (arith, first, others, there, all)
      by false is rest =
          let first = step below k ks ∙ ap (λ (s : Bool). one (p k && not s) + count_by below ks) (flips k root ∙ is) in
          let kept = other (p k) in
          let there = ap (λ (b : Bool). one ((b || list_any (same_key root) ks) && p root)) is in
          let all = step p k ks in
          omega (arith, first, kept, there, all, rest)
        where
          other : (b : Bool) → one (b && true) ≡ one b
          other true = refl
          other false = refl

-- keys that ascend differ
sorted_apart : (ks : List ObjectKey) → IsStrictlySortedBy object_cmp ks → IsDistinct same_key ks
unfolding IsDistinct IsStrictlySortedBy
sorted_apart [] sorted = tt
sorted_apart (k ∷ ks) sorted = (each ks sorted.0, sorted_apart ks sorted.1)
  where
    each : (ys : List ObjectKey) → AllByRecursion (λ y. object_cmp k y ≡ Less) ys → AllByRecursion (λ y. same_key k y ≡ false) ys
    each [] all = tt
    each (y ∷ ys) all = (object_ties k y ∙ ap is_eq all.0, each ys all.1)

-- the place of a key, less one for the root where it stands before, is how many keys below the root stand before
pub keys_before : (ks : List ObjectKey) (key : ObjectKey) (place : ℕ) → IsStrictlySortedBy object_cmp ks → Some place ≡ position (same_key key) ks
    → count_by (λ k. is_lt (object_cmp k key) && not (same_key k root)) ks + (if list_any (same_key root) ks && is_lt (object_cmp root key) then 1 else 0) ≡ place
keys_before ks key place sorted is =
    let at = position-Some (same_key key) ks place key (sym is) in
    let there : slice_get ks place ≡ Some key = slice_get-get_or ks place key at.0 ∙ ap (λ (k : ObjectKey). Some k) (sym (same_key-true key (get_or ks place key) at.1)) in
    root_apart (before key) ks (sorted_apart ks sorted) ∙ place_counts ks place key sorted there
