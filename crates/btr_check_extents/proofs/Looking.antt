-- A reference among those that were counted, found by halves.
use Rattle.btr_check_extents.proofs.Imports.{◌≡◌, ◌≢◌, ◌<◌, ◌≤◌, ℕ, zero, suc, ◌+◌, Bool, true, false, if◌then◌else◌, List, [], ◌∷◌, length, get_or, Result, Ok, Err, Option, Ordering, Less, Equal, Greater, is_eq, is_lt, IsSortedBy, refl, sym, ap, ◌∙◌, ⊎_elim, arith, true≢false, All, AllPairs, count_by, sum_by, AreCountsOf, AreJoined, IsTestOfRefs, is_same, made_in, order_of, MadeCount}
use Rattle.btr_check_rules.specs.References.{Made}
use Rattle.std.specs.List.Sorted.{IsBinarySearchResult, IsSearchInRange}
use Rattle.std.specs.Ordering.{ordering_reverse}
use Rattle.std.specs.Option.{MatchOption}
use Rattle.std.specs.Result.{result_ok}
use Rattle.std.proofs.lemmas.Bool.{cases_lt}
use Rattle.std.proofs.lemmas.Cmp.{tied_back}
use Rattle.std.proofs.lemmas.List.{get_or_default}
use Rattle.std.proofs.lemmas.List.Sorted.{searchable_from_sorted}
use Rattle.std.proofs.lemmas.List.Sums.{sum_by-cons}
use Rattle.btr_check_rules.proofs.Distinct.{pairs_of_map}
use Rattle.btr_check_references.proofs.Order.{order_total, same_order}

-- ---- references that are the same

not_same : (a b : Made) → order_of a b ≢ Equal → is_same a b ≡ false
not_same a b other = same_order a b ∙ by (order_of a b) refl
  where
    by : (o : Ordering) → order_of a b ≡ o → is_eq o ≡ false
    by Less is = refl
    by Equal is = absurd (other is)
    by Greater is = refl

same : (a b : Made) → order_of a b ≡ Equal → is_same a b ≡ true
same a b is = same_order a b ∙ ap is_eq is

order_same : (a b : Made) → is_same a b ≡ true → order_of a b ≡ Equal
order_same a b is = by (order_of a b) refl
  where
    by : (o : Ordering) → order_of a b ≡ o → o ≡ Equal
    by Less at = absurd (true≢false (sym is ∙ same_order a b ∙ ap is_eq at))
    by Equal at = refl
    by Greater at = absurd (true≢false (sym is ∙ same_order a b ∙ ap is_eq at))

-- whether references are the same as one does not tell those apart that are the same
pub same_test : (x : Made) → IsTestOfRefs (λ m. is_same m x)
same_test x a b is = same_order a x ∙ ap is_eq (order_total.congr a b x (order_same a b is)) ∙ sym (same_order b x)

-- ---- found by halves

less_not_equal : (o : Ordering) → o ≡ Less → o ≢ Equal
less_not_equal o is equal = cc

greater_not_equal : (o : Ordering) → o ≡ Greater → o ≢ Equal
greater_not_equal o is equal = cc

ascending : (counts : List MadeCount) → AreJoined counts → AllPairs (λ a b. order_of (made_in a) (made_in b) ≡ Less) counts
ascending counts joined = pairs_of_map (λ a b. order_of a b ≡ Less) made_in counts joined.ascend

sorted : (counts : List MadeCount) → AreJoined counts → IsSortedBy (λ a b. is_lt (order_of (made_in a) (made_in b))) counts
sorted counts joined k d low high =
    ap is_lt (order_total.antisymm (made_in (get_or counts (k + 1) d)) (made_in (get_or counts k d)) ∙ ap ordering_reverse (ascending counts joined k (k + 1) d (omega arith) high))

abbrev pub IsFound : List MadeCount → Made → Option ℕ → Type 0
IsFound counts x found = MatchOption found (All (λ e. is_same (made_in e) x ≡ false) counts) (λ i. (i < length counts) × ((d : MadeCount) → is_same (made_in (get_or counts i d)) x ≡ true))

found_none : (counts : List MadeCount) (x : Made) (i : ℕ) → AreJoined counts → IsBinarySearchResult (λ e. order_of (made_in e) x) counts (Err i) → All (λ e. is_same (made_in e) x ≡ false) counts
found_none counts x i joined found k d within =
    let parts = found (searchable_from_sorted order_total made_in counts x (sorted counts joined)) in
    ⊎_elim
    (λ (low : k < i). not_same (made_in (get_or counts k d)) x (less_not_equal (order_of (made_in (get_or counts k d)) x) (parts.0 k d (omega arith) low)))
    (λ (high : i ≤ k). not_same (made_in (get_or counts k d)) x (greater_not_equal (order_of (made_in (get_or counts k d)) x) (parts.1 k d high within)))
    (cases_lt k i)

found_some : (counts : List MadeCount) (x : Made) (i : ℕ) → IsBinarySearchResult (λ e. order_of (made_in e) x) counts (Ok i) → (d : MadeCount) → is_same (made_in (get_or counts i d)) x ≡ true
found_some counts x i found d = same (made_in (get_or counts i d)) x (found d)

pub found_is : (counts : List MadeCount) (x : Made) (r : Result ℕ ℕ) → AreJoined counts → IsSearchInRange r (length counts) → IsBinarySearchResult (λ e. order_of (made_in e) x) counts r → IsFound counts x (result_ok r)
found_is counts x (Ok i) joined within found = (within, found_some counts x i found)
found_is counts x (Err i) joined within found = found_none counts x i joined found

-- ---- its count

sum_by_none : {X : Type 0} (f : X → ℕ) (xs : List X) → All (λ x. f x ≡ 0) xs → sum_by f xs ≡ 0
sum_by_none f [] none = refl
sum_by_none f (x ∷ xs) none =
    let first = none 0 x (omega arith) in
    let rest = sum_by_none f xs (λ k d within. none (suc k) d (omega (arith, within))) in
    omega (arith, sum_by-cons f x xs, first, rest)

sum_by_only : {X : Type 0} (f : X → ℕ) (xs : List X) (i : ℕ) (d : X) → i < length xs → ((k : ℕ) → k < length xs → k ≢ i → f (get_or xs k d) ≡ 0) → sum_by f xs ≡ f (get_or xs i d)
sum_by_only f [] i d within none = absurd (omega (arith, within))
sum_by_only f (x ∷ xs) zero d within none =
    let rest = sum_by_none f xs (λ k e inside. ap f (get_or_default xs k e d inside) ∙ none (suc k) (omega (arith, inside)) (λ is. absurd (omega (arith, is)))) in
    omega (arith, sum_by-cons f x xs, rest)
sum_by_only f (x ∷ xs) (suc i) d within none =
    let first = none 0 (omega arith) (λ is. absurd (omega (arith, is))) in
    let rest = sum_by_only f xs i d (omega (arith, within)) (λ k inside other. none (suc k) (omega (arith, inside)) (λ is. other (omega (arith, is)))) in
    omega (arith, sum_by-cons f x xs, first, rest)

abbrev part : Made → MadeCount → ℕ
part x e = if is_same (made_in e) x then e.count else 0

-- two that tie with one tie with each other
both_tie : (a b x : Made) → order_of a x ≡ Equal → order_of b x ≡ Equal → order_of a b ≡ Equal
both_tie a b x first second = order_total.congr a x b first ∙ tied_back order_total b x second

-- of entries of which each stands once only one is the same as this
no_other : (counts : List MadeCount) (x : Made) (i k : ℕ) (d : MadeCount) → AreJoined counts → i < length counts → k < length counts → k ≢ i
    → is_same (made_in (get_or counts i d)) x ≡ true → is_same (made_in (get_or counts k d)) x ≡ false
no_other counts x i k d joined within inside other here =
    let at : Made = made_in (get_or counts i d) in
    let it : Made = made_in (get_or counts k d) in
    not_same it x (λ equal. ⊎_elim
    (λ (low : k < i). less_not_equal (order_of it at) (ascending counts joined k i d low within) (both_tie it at x equal (order_same at x here)))
    (λ (high : i ≤ k). less_not_equal (order_of at it) (ascending counts joined i k d (omega (arith, high, other)) inside) (order_total.antisymm at it ∙ ap ordering_reverse (both_tie it at x equal (order_same at x here))))
    (cases_lt k i))

pub count_found : (counts : List MadeCount) (x : Made) (i : ℕ) (d : MadeCount) (list : List Made) → AreJoined counts → i < length counts → is_same (made_in (get_or counts i d)) x ≡ true
    → AreCountsOf list counts → (get_or counts i d).count ≡ count_by (λ m. is_same m x) list
count_found counts x i d list joined within here are =
    ap (λ (b : Bool). if b then (get_or counts i d).count else 0) (sym here)
    ∙ sym (sum_by_only (part x) counts i d within (λ k inside other. ap (λ (b : Bool). if b then (get_or counts k d).count else 0) (no_other counts x i k d joined within inside other here)))
    ∙ are.counts (λ m. is_same m x) (same_test x)

pub count_none : (counts : List MadeCount) (x : Made) (list : List Made) → All (λ e. is_same (made_in e) x ≡ false) counts → AreCountsOf list counts → 0 ≡ count_by (λ m. is_same m x) list
count_none counts x list none are =
    sym (sum_by_none (part x) counts (λ k d within. ap (λ (b : Bool). if b then (get_or counts k d).count else 0) (none k d within))) ∙ are.counts (λ m. is_same m x) (same_test x)
