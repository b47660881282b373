-- Keys in order.
use Rattle.btr_node.proofs.Imports.{◌≡◌, ◌≤◌, ◌<◌, ◌↔◌, ℕ, ◌+◌, ◌-◌, ◌*◌, Bool, true, false, ◌&&◌, List, [], ◌∷◌, ◌++◌, length, drop, refl, sym, ap, ◌∙◌, arith, length-drop, IsTrue, key_layout, key_cmp, IsBefore, Key, is_before, is_before_first, ascends, records_in}
use Rattle.std.specs.declared.cmp.Ordering.{Ordering}
use Rattle.std.specs.declared.cmp.Ordering.TheVariants.{Less, Equal, Greater}
use Rattle.std.specs.Ordering.{is_lt}
use Rattle.btr_node.proofs.Rows.{next_row, length-records_in, both, joined}

-- at most one key ascends
pub few_ascend : (keys : List Key) → length keys ≤ 1 → ascends keys ≡ true
few_ascend [] few = refl
few_ascend (key ∷ []) few = refl
few_ascend (key ∷ (next ∷ keys)) few = absurd (omega arith)

less_test : (o : Ordering) (b : Bool) → IsTrue b ↔ (o ≡ Less) → b ≡ is_lt o
less_test Less b told = told.1 refl
less_test Equal true told = absurd (cc (told.0 refl))
less_test Equal false told = refl
less_test Greater true told = absurd (cc (told.0 refl))
less_test Greater false told = refl

pub before_test : (a b : Key) (test : Bool) → IsTrue test ↔ IsBefore a b → test ≡ is_before a b
before_test a b test told = less_test (key_cmp a b) test told

-- one key, and what is left
pub two_keys : (width n i : ℕ) (bytes : List ℕ) (a b : Key) → 1 ≤ i → i < n
    → a ≡ key_layout.read (drop (width * (i - 1)) bytes) → b ≡ key_layout.read (drop (width * i) bytes)
    → ascends (drop (i - 1) (records_in width key_layout n bytes)) ≡ (is_before a b && ascends (drop i (records_in width key_layout n bytes)))
two_keys width n i bytes a b low lt is-a is-b =
    let keys = records_in width key_layout n bytes in
    let here : i - 1 + 1 ≡ i = omega arith in
    next_row ascends width key_layout n (i - 1) bytes a (omega arith) is-a
    ∙ ap (λ k. is_before_first a (drop k keys) && ascends (drop k keys)) here
    ∙ ap (λ t. t && ascends (drop i keys)) (next_row (is_before_first a) width key_layout n i bytes b lt is-b)

-- no key is left, or one
pub last_ascends : (width n i : ℕ) (bytes : List ℕ) (all : Bool) → n ≤ i
    → ascends (drop (i - 1) (records_in width key_layout n bytes)) ≡ all → true ≡ all
last_ascends width n i bytes all end h =
    let keys = records_in width key_layout n bytes in
    sym (few_ascend (drop (i - 1) keys) (omega (arith, length-drop (i - 1) keys, length-records_in width key_layout n bytes))) ∙ h

first_of_append : (key : Key) (first second : List Key) → is_before_first key (first ++ second) ≡ true → is_before_first key first ≡ true
first_of_append key [] second h = refl
first_of_append key (next ∷ first) second h = h

pub first_ascends : (first second : List Key) → ascends (first ++ second) ≡ true → ascends first ≡ true
first_ascends [] second h = refl
first_ascends (key ∷ first) second h =
    let parts = both (is_before_first key (first ++ second)) (ascends (first ++ second)) h in
    joined _ _ (first_of_append key first second parts.0) (first_ascends first second parts.1)

pub second_ascends : (first second : List Key) → ascends (first ++ second) ≡ true → ascends second ≡ true
second_ascends [] second h = h
second_ascends (key ∷ first) second h = second_ascends first second (both (is_before_first key (first ++ second)) (ascends (first ++ second)) h).1

is_lt_less : (o : Ordering) → o ≡ Less → is_lt o ≡ true
is_lt_less o is = ap is_lt is

pub joins : (front back : List Key) (last next : Key) → ascends (front ++ last ∷ []) ≡ true → ascends (next ∷ back) ≡ true → IsBefore last next
    → ascends ((front ++ last ∷ []) ++ next ∷ back) ≡ true
joins [] back last next first second before = joined (is_before last next) (ascends (next ∷ back)) (is_lt_less (key_cmp last next) before) second
joins (key ∷ []) back last next first second before =
    let parts = both (is_before key last) (ascends (last ∷ [])) first in
    joined (is_before key last) _ parts.0 (joins [] back last next parts.1 second before)
joins (key ∷ (more ∷ front)) back last next first second before =
    let parts = both (is_before key more) (ascends (more ∷ (front ++ last ∷ []))) first in
    joined (is_before key more) _ parts.0 (joins (more ∷ front) back last next parts.1 second before)
