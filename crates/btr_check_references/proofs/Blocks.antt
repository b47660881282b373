-- The range that holds a block, found by halves, and the states of blocks.
use Rattle.btr_check_references.proofs.Imports.{◌≡◌, ◌≤◌, ◌<◌, nat_le, nat_lt, ℕ, zero, suc, ◌+◌, ◌-◌, ◌^◌, ◌==◌, Bool, true, false, true≢false, ◌&&◌, ◌||◌, List, [], ◌∷◌, ◌++◌, length, map, set, get_or, replicate, Option, Some, None, is_some, if◌then◌else◌, leb, ⊎_elim, refl, sym, ap, subst, ◌∙◌, arith, All, AllPairs, Contains, list_any, IsNonDecreasingBy, IsPartitionPoint, IsPartitionedBy, cases_lt, eqb-false, eqb-true, nat_tests, get_or-map, get_or-set_other, get_or_default, length-map, map-append, All-contains, All-head, All-push, All-tail, all_pairs_push, IsPartitionedBy-leb, NodeRange, NodeState, Unmet, AreNodeRanges, AreRangesOf, IsOwned, IsRangeBefore, block_count, first_block, first_state, holds_block, is_unowned, range_blocks, slot_in, span_blocks, state_in}
use Rattle.std.specs.Option.{option_map}
use Rattle.std.proofs.lemmas.Grind.{get_or-set_at}
use Rattle.btr_check_rules.specs.declared.span.Span.{Span}
use Rattle.btr_check_rules.specs.Places.{EndsBefore}

rises : (rs : List NodeRange) → AllPairs IsRangeBefore rs → IsNonDecreasingBy (λ (r : NodeRange). r.first) rs
rises rs apart i j d ordered within =
    ⊎_elim (λ before. omega (arith, apart i j d before within))
    (λ not_before. let same : i ≡ j = omega (arith, ordered, not_before) in omega (arith, ap (λ (k : ℕ). (get_or rs k d).first) same)) (cases_lt i j)

-- the ranges that begin at a block or before come first
pub begun_first : (rs : List NodeRange) (b : ℕ) → AllPairs IsRangeBefore rs → IsPartitionedBy (λ (r : NodeRange). leb r.first b) rs
begun_first rs b apart = IsPartitionedBy-leb (λ (r : NodeRange). r.first) rs b (rises rs apart)

-- where the state of a block of the range stands
abbrev own_slot : ℕ → NodeRange → Option ℕ
own_slot b r = if holds_block b r then Some (r.slot + (b - r.first)) else None

module _ (b : ℕ) where
  not_held : (r : NodeRange) (rs : List NodeRange) → holds_block b r ≡ false → slot_in (r ∷ rs) b ≡ slot_in rs b
  not_held r rs no_ = ap (λ (t : Bool). if t then Some (r.slot + (b - r.first)) else slot_in rs b) no_

  none_holds : (rs : List NodeRange) → All (λ r. holds_block b r ≡ false) rs → slot_in rs b ≡ None
  none_holds [] none = refl
  none_holds (r ∷ rs) none = not_held r rs (All-head (λ r. holds_block b r ≡ false) r rs none) ∙ none_holds rs (All-tail (λ r. holds_block b r ≡ false) r rs none)

  only_first : (r : NodeRange) (rs : List NodeRange) → slot_in rs b ≡ None → slot_in (r ∷ rs) b ≡ own_slot b r
  only_first r rs none = ap (λ (o : Option ℕ). if holds_block b r then Some (r.slot + (b - r.first)) else o) none

  only_at : (rs : List NodeRange) (j : ℕ) (d : NodeRange) → j < length rs → ((k : ℕ) (e : NodeRange) → k < length rs → ¬ (k ≡ j) → holds_block b (get_or rs k e) ≡ false) → slot_in rs b ≡ own_slot b (get_or rs j d)
  only_at [] j d within none = absurd (omega (arith, within))
  only_at (r ∷ rs) zero d within none = only_first r rs (none_holds rs (λ k e here. none (suc k) e (omega (arith, here)) (λ is. absurd (omega (arith, is)))))
  only_at (r ∷ rs) (suc j) d within none =
      not_held r rs (none 0 r (omega arith) (λ is. absurd (omega (arith, is))))
      ∙ only_at rs j d (omega (arith, within)) (λ k e here other. none (suc k) e (omega (arith, here)) (λ is. other (omega (arith, is))))

  ended : (r s : NodeRange) → IsRangeBefore r s → leb s.first b ≡ true → holds_block b r ≡ false
  ended r s before begun = grind (arith, nat_tests, before, begun)

  not_begun : (r : NodeRange) → leb r.first b ≡ false → holds_block b r ≡ false
  not_begun r later = grind (arith, nat_tests, later)

  module _ (rs : List NodeRange) (i : ℕ) (parts : IsPartitionPoint (λ (r : NodeRange). leb r.first b ≡ true) (λ (r : NodeRange). leb r.first b ≡ false) rs i) where
    pub none_begun : i ≡ 0 → slot_in rs b ≡ None
    none_begun is = none_holds rs (λ k d within. not_begun (get_or rs k d) (parts.1 k d (omega (arith, is)) within))

    pub last_begun : (j : ℕ) (d : NodeRange) → AllPairs IsRangeBefore rs → j + 1 ≡ i → i ≤ length rs → slot_in rs b ≡ own_slot b (get_or rs j d)
    last_begun j d apart is within =
        only_at rs j d (omega (arith, is, within))
        (λ k e here other. ⊎_elim
        (λ before. ended (get_or rs k e) (get_or rs j e) (apart k j e before (omega (arith, is, within))) (parts.0 j e (omega arith) (omega (arith, is))))
        (λ not_before. not_begun (get_or rs k e) (parts.1 k e (omega (arith, is, not_before, other)) here)) (cases_lt k j))

-- ---- where states stand

holds_low : (b : ℕ) (r : NodeRange) → holds_block b r ≡ true → (r.first ≤ b) × (b - r.first < r.count)
holds_low b r is = (grind (arith, nat_tests), grind (arith, nat_tests))

-- a state stands with those of a range that holds the block
abbrev StandsIn : List NodeRange → ℕ → ℕ → Type 0
StandsIn rs b k = (r : NodeRange) × Contains rs r × (holds_block b r ≡ true) × (k ≡ r.slot + (b - r.first))

some_is : (k n : ℕ) → Some k ≡ Some n → n ≡ k
some_is k n is = cc

some_none : (k : ℕ) → None ≡ Some k → ⊥
some_none k is = cc

slot_found : (rs : List NodeRange) (b k : ℕ) → slot_in rs b ≡ Some k → StandsIn rs b k
slot_found [] b k is = absurd (some_none k is)
slot_found (r ∷ rs) b k is = by (holds_block b r) refl is (slot_found rs b k)
  where
    by : (t : Bool) → holds_block b r ≡ t → (if t then Some (r.slot + (b - r.first)) else slot_in rs b) ≡ Some k → (slot_in rs b ≡ Some k → StandsIn rs b k) → StandsIn (r ∷ rs) b k
    by true here slot rest = (r, (0, omega arith, refl), here, some_is (r.slot + (b - r.first)) k slot)
    by false here slot rest =
        let (s, among, held, at) = rest slot in
        (s, (suc among.0, omega (arith, among.1), among.2), held, at)

pub slot_inside : (rs : List NodeRange) (total b k : ℕ) → All (λ r. r.slot + r.count ≤ total) rs → slot_in rs b ≡ Some k → k < total
slot_inside rs total b k inside is =
    let (r, among, held, at) = slot_found rs b k is in
    let low = holds_low b r held in
    let fits = All-contains (λ (r : NodeRange). r.slot + r.count ≤ total) rs r inside among in
    omega (arith, at, low.0, low.1, fits)

-- the only range that can hold a block does
slot_held : (rs : List NodeRange) (b : ℕ) (r : NodeRange) → AllPairs IsRangeBefore rs → Contains rs r → holds_block b r ≡ true → slot_in rs b ≡ Some (r.slot + (b - r.first))
slot_held rs b r apart among held =
    only_at b rs among.0 r among.1 (λ k e here other. others k e here other)
    ∙ ap (own_slot b) among.2 ∙ ap (λ (t : Bool). if t then Some (r.slot + (b - r.first)) else None) held
  where
    low : (r.first ≤ b) × (b - r.first < r.count)
    low = holds_low b r held

    others : (k : ℕ) (e : NodeRange) → k < length rs → ¬ (k ≡ among.0) → holds_block b (get_or rs k e) ≡ false
    others k e here other = ⊎_elim
        (λ (before : k < among.0).
        let apart_from : (get_or rs k e).first + (get_or rs k e).count ≤ r.first = subst (λ (s : NodeRange). IsRangeBefore (get_or rs k e) s) (get_or_default rs among.0 e r among.1 ∙ among.2) (apart k among.0 e before among.1) in
        past (get_or rs k e) apart_from)
        (λ (behind : among.0 ≤ k).
        let later : r.first + r.count ≤ (get_or rs k e).first = subst (λ (s : NodeRange). IsRangeBefore s (get_or rs k e)) (get_or_default rs among.0 e r among.1 ∙ among.2) (apart among.0 k e (omega (arith, behind, other)) here) in
        early (get_or rs k e) later)
        (cases_lt k among.0)
      where
        past : (s : NodeRange) → s.first + s.count ≤ r.first → holds_block b s ≡ false
        past s ends = grind (arith, nat_tests, low.0, ends)

        early : (s : NodeRange) → r.first + r.count ≤ s.first → holds_block b s ≡ false
        early s begins = grind (arith, nat_tests, low.0, low.1, begins)

-- no two blocks have one state
slots_apart : (rs : List NodeRange) (b c k : ℕ) → AllPairs (λ r s. r.slot + r.count ≤ s.slot) rs → slot_in rs b ≡ Some k → slot_in rs c ≡ Some k → b ≡ c
slots_apart rs b c k slots one two =
    let (r, among, held, at) = slot_found rs b k one in
    let (s, there, keeps, stands) = slot_found rs c k two in
    let low = holds_low b r held in
    let high = holds_low c s keeps in
    let at_r : get_or rs among.0 r ≡ r = among.2 in
    let at_s : get_or rs there.0 r ≡ s = get_or_default rs there.0 r s there.1 ∙ there.2 in
    ⊎_elim
    (λ (before : among.0 < there.0).
    let apart : r.slot + r.count ≤ s.slot = subst (λ (x : NodeRange). x.slot + x.count ≤ s.slot) at_r (subst (λ (x : NodeRange). (get_or rs among.0 r).slot + (get_or rs among.0 r).count ≤ x.slot) at_s (slots among.0 there.0 r before there.1)) in
    absurd (omega (arith, at, stands, low.1, apart)))
    (λ (behind : there.0 ≤ among.0). ⊎_elim
    (λ (after : there.0 < among.0).
    let apart : s.slot + s.count ≤ r.slot = subst (λ (x : NodeRange). x.slot + x.count ≤ r.slot) at_s (subst (λ (x : NodeRange). (get_or rs there.0 r).slot + (get_or rs there.0 r).count ≤ x.slot) at_r (slots there.0 among.0 r after among.1)) in
    absurd (omega (arith, at, stands, high.1, apart)))
    (λ (not_after : among.0 ≤ there.0).
    let same : there.0 ≡ among.0 = omega (arith, behind, not_after) in
    let one_range : s ≡ r = sym at_s ∙ ap (λ (n : ℕ). get_or rs n r) same ∙ at_r in
    let slot : s.slot ≡ r.slot = ap (λ (x : NodeRange). x.slot) one_range in
    let first : s.first ≡ r.first = ap (λ (x : NodeRange). x.first) one_range in
    omega (arith, at, stands, slot, first, low.0, high.0))
    (cases_lt there.0 among.0))
    (cases_lt among.0 there.0)

-- ---- a state that is noted

abbrev pub state_by : List NodeState → Option ℕ → Option NodeState
state_by states slot = option_map (λ k. get_or states k Unmet) slot

pub noted : (rs : List NodeRange) (states : List NodeState) (block k : ℕ) (v : NodeState) (b : ℕ) → AreNodeRanges rs (length states) → slot_in rs block ≡ Some k
    → state_in rs (set states k v) b ≡ (if (b == block) && is_some (state_in rs states b) then Some v else state_in rs states b)
noted rs states block k v b placed is = by (slot_in rs b) refl
  where
    one_slot : (n : ℕ) → slot_in rs b ≡ Some n → b ≡ block → n ≡ k
    one_slot n at same = some_is k n (sym is ∙ ap (slot_in rs) (sym same) ∙ at)

    absent : (t : Bool) → ◌≡◌ {A = Option NodeState} None (if t && false then Some v else None)
    absent true = refl
    absent false = refl

    by : (o : Option ℕ) → slot_in rs b ≡ o → state_by (set states k v) o ≡ (if (b == block) && is_some (state_by states o) then Some v else state_by states o)
    by None none = absent (b == block)
    by (Some n) at = there n at (b == block) refl
      where
        there : (n : ℕ) → slot_in rs b ≡ Some n → (t : Bool) → (b == block) ≡ t → Some (get_or (set states k v) n Unmet) ≡ (if t && true then Some v else Some (get_or states n Unmet))
        there n at true same = ap (λ (s : NodeState). Some s) (get_or-set_at states k n v Unmet (one_slot n at (eqb-true b block same)) (slot_inside rs (length states) block k placed.inside is))
        there n at false other = ap (λ (s : NodeState). Some s) (get_or-set_other states k n v Unmet (λ (one : n ≡ k). eqb-false b block other (slots_apart rs b block k placed.slots (at ∙ ap (λ (m : ℕ). Some m) one) is)))

pub not_noted : (rs : List NodeRange) (states : List NodeState) (block : ℕ) (v : NodeState) (b : ℕ) → slot_in rs block ≡ None
    → state_in rs states b ≡ (if (b == block) && is_some (state_in rs states b) then Some v else state_in rs states b)
not_noted rs states block v b is = by (b == block) refl
  where
    by : (t : Bool) → (b == block) ≡ t → state_in rs states b ≡ (if t && is_some (state_in rs states b) then Some v else state_in rs states b)
    by false other = refl
    by true same =
        let none : state_in rs states b ≡ None = ap (λ (n : ℕ). state_in rs states n) (eqb-true b block same) ∙ ap (state_by states) is in
        subst (λ (o : Option NodeState). o ≡ (if true && is_some o then Some v else o)) (sym none) refl

-- ---- states of nodes that were not met in the trees of their owners

abbrev pub IsRangeOwned : List NodeState → NodeRange → Type 0
IsRangeOwned states r = (i : ℕ) → i < r.count → is_unowned (get_or states (r.slot + i) Unmet) ≡ false

no_state : (s : NodeState) → None ≡ Some s → ⊥
no_state s is = cc

same_state : (s t : NodeState) → Some s ≡ Some t → s ≡ t
same_state s t is = cc

pub all_owned : (rs : List NodeRange) (states : List NodeState) → All (IsRangeOwned states) rs → (b : ℕ) → IsOwned (state_in rs states b)
all_owned rs states owned b s is = by (slot_in rs b) refl is
  where
    by : (o : Option ℕ) → slot_in rs b ≡ o → state_by states o ≡ Some s → is_unowned s ≡ false
    by None at state = absurd (no_state s state)
    by (Some k) at state =
        let (r, among, held, stands) = slot_found rs b k at in
        let low = holds_low b r held in
        let own = All-contains (IsRangeOwned states) rs r owned among (b - r.first) low.1 in
        subst (λ (x : NodeState). is_unowned x ≡ false) (same_state (get_or states k Unmet) s state) (subst (λ (n : ℕ). is_unowned (get_or states n Unmet) ≡ false) (sym stands) own)

pub one_unowned : (rs : List NodeRange) (states : List NodeState) (r : NodeRange) (i : ℕ) → AreNodeRanges rs (length states) → Contains rs r → i < r.count
    → is_unowned (get_or states (r.slot + i) Unmet) ≡ true → (r.first + i < 2 ^ 52) × ¬ IsOwned (state_in rs states (r.first + i))
one_unowned rs states r i placed among below is =
    let low = All-contains (λ (x : NodeRange). x.first + x.count ≤ 2 ^ 52) rs r placed.low among in
    let at : slot_in rs (r.first + i) ≡ Some (r.slot + (r.first + i - r.first)) = slot_held rs (r.first + i) r placed.apart among holds in
    let slot : r.slot + (r.first + i - r.first) ≡ r.slot + i = omega arith in
    let state : state_in rs states (r.first + i) ≡ Some (get_or states (r.slot + i) Unmet) = ap (state_by states) (at ∙ ap (λ (n : ℕ). Some n) slot) in
    (omega (arith, low, below), λ owned. true≢false (sym is ∙ owned (get_or states (r.slot + i) Unmet) state))
  where
    holds : holds_block (r.first + i) r ≡ true
    holds = grind (arith, nat_tests, below)

-- ---- the ranges of blocks of ranges of addresses

pub no_ranges : AreRangesOf [] [] 0
no_ranges = record { blocks = refl; slots = λ i j d before within. absurd (omega (arith, within)); inside = λ k d within. absurd (omega (arith, within)); low = λ k d within. absurd (omega (arith, within)) }

pub ranges_more : (spans : List Span) (rs : List NodeRange) (total : ℕ) (span : Span) (r : NodeRange) → AreRangesOf spans rs total
    → r.first ≡ first_block span → r.count ≡ block_count span → r.slot ≡ total → r.first + r.count ≤ 2 ^ 52 → AreRangesOf (spans ++ span ∷ []) (rs ++ r ∷ []) (total + r.count)
ranges_more spans rs total span r are first count slot low = record {
  blocks = map-append range_blocks rs (r ∷ []) ∙ ap (λ (xs : List (ℕ × ℕ)). xs ++ range_blocks r ∷ []) are.blocks ∙ ap (λ (p : ℕ × ℕ). map span_blocks spans ++ p ∷ []) one ∙ sym (map-append span_blocks spans (span ∷ []));
  slots = all_pairs_push (λ (a b : NodeRange). a.slot + a.count ≤ b.slot) rs r are.slots (λ k d within. omega (arith, are.inside k d within, slot));
  inside = All-push (λ (a : NodeRange). a.slot + a.count ≤ total + r.count) rs r (λ k d within. omega (arith, are.inside k d within)) (omega (arith, slot));
  low = All-push (λ (a : NodeRange). a.first + a.count ≤ 2 ^ 52) rs r are.low low;
}
  where
    one : range_blocks r ≡ span_blocks span
    one = cc

abbrev in_blocks : ℕ → ℕ × ℕ → Bool
in_blocks b p = nat_le p.0 b && nat_lt (b - p.0) p.1

before_blocks : (a b : Span) → EndsBefore a b → first_block a + block_count a ≤ first_block b
before_blocks a b ends = omega (arith, ends)

pairs_of_map : {X Y : Type 0} (R : Y → Y → Type 0) (f : X → Y) (xs : List X) → AllPairs R (map f xs) → AllPairs (λ a b. R (f a) (f b)) xs
pairs_of_map R f xs pairs = λ i j d less inside.
    let long = length-map xs f in
    subst (λ y. R y (f (get_or xs j d))) (get_or-map f xs i d (f d) (omega (arith, less, inside)))
    (subst (λ y. R (get_or (map f xs) i (f d)) y) (get_or-map f xs j d (f d) inside) (pairs i j (f d) less (omega (arith, inside, long))))

pairs_in_map : {X Y : Type 0} (R : Y → Y → Type 0) (f : X → Y) (xs : List X) → AllPairs (λ a b. R (f a) (f b)) xs → AllPairs R (map f xs)
pairs_in_map R f [] pairs = λ i j d less inside. absurd (omega (arith, inside))
pairs_in_map {X} R f (x ∷ xs) pairs = λ i j d less inside.
    let long = length-map (x ∷ xs) f in
    subst (λ y. R y (get_or (map f (x ∷ xs)) j d)) (sym (get_or-map f (x ∷ xs) i x d (omega (arith, less, inside, long))))
    (subst (λ y. R (f (get_or (x ∷ xs) i x)) y) (sym (get_or-map f (x ∷ xs) j x d (omega (arith, inside, long)))) (pairs i j x less (omega (arith, inside, long))))

pub ranges_apart : (spans : List Span) (rs : List NodeRange) (total : ℕ) → AllPairs EndsBefore spans → AreRangesOf spans rs total → AreNodeRanges rs total
ranges_apart spans rs total apart are = record {
  apart = pairs_of_map (λ (p q : ℕ × ℕ). p.0 + p.1 ≤ q.0) range_blocks rs (subst (AllPairs (λ (p q : ℕ × ℕ). p.0 + p.1 ≤ q.0)) (sym are.blocks) (pairs_in_map (λ (p q : ℕ × ℕ). p.0 + p.1 ≤ q.0) span_blocks spans (λ i j d before within. before_blocks (get_or spans i d) (get_or spans j d) (apart i j d before within))));
  slots = are.slots;
  inside = are.inside;
  low = are.low;
}

any_of_map : {X Y : Type 0} (test : Y → Bool) (f : X → Y) (xs : List X) → list_any (λ x. test (f x)) xs ≡ list_any test (map f xs)
any_of_map test f [] = refl
any_of_map test f (x ∷ xs) = ap (λ (t : Bool). test (f x) || t) (any_of_map test f xs)

all_unmet : (n k : ℕ) → get_or (replicate n Unmet) k Unmet ≡ Unmet
all_unmet zero k = refl
all_unmet (suc n) zero = refl
all_unmet (suc n) (suc k) = all_unmet n k

unmet_states : (rs : List NodeRange) (total b : ℕ) → state_in rs (replicate total Unmet) b ≡ (if list_any (holds_block b) rs then Some Unmet else None)
unmet_states [] total b = refl
unmet_states (r ∷ rs) total b = by (holds_block b r) (unmet_states rs total b)
  where
    by : (t : Bool) → state_in rs (replicate total Unmet) b ≡ (if list_any (holds_block b) rs then Some Unmet else None)
        → state_by (replicate total Unmet) (if t then Some (r.slot + (b - r.first)) else slot_in rs b) ≡ (if t || list_any (holds_block b) rs then Some Unmet else None)
    by true rest = ap (λ (s : NodeState). Some s) (all_unmet total (r.slot + (b - r.first)))
    by false rest = rest

pub first_states : (spans : List Span) (rs : List NodeRange) (total : ℕ) → AreRangesOf spans rs total → (b : ℕ) → state_in rs (replicate total Unmet) b ≡ first_state spans b
first_states spans rs total are b =
    unmet_states rs total b ∙ ap (λ (t : Bool). if t then Some Unmet else None) (any_of_map (in_blocks b) range_blocks rs ∙ ap (list_any (in_blocks b)) are.blocks ∙ sym (any_of_map (in_blocks b) span_blocks spans))
