-- The order of keys.
use Rattle.btr_tree.proofs.Imports.{◌≡◌, ◌⊎◌, ℕ, ◌<◌, ◌≤◌, true, false, List, [], ◌∷◌, ◌++◌, length, map, inl, inr, refl, sym, ◌∙◌, ap, arith, ⊎_elim, All, flat_map, is_lt, nat_cmp, ordering_then, nat_cmp_is, cases_order, both_ways, map-append, All-head, All-tail, Key, Item, keys_of, is_before, is_before_first, ascends, Ascends, second_ascends, both, joined, first_key}
use Rattle.std.specs.declared.cmp.Ordering.{Ordering}
use Rattle.std.specs.declared.cmp.Ordering.TheVariants.{Less, Equal, Greater}

-- by objectid, then by kind, then by offset
abbrev Before : Key → Key → Type 0
Before a b = (a.objectid < b.objectid) ⊎ ((a.objectid ≡ b.objectid) × ((a.kind < b.kind) ⊎ ((a.kind ≡ b.kind) × (a.offset < b.offset))))

less : (x y : ℕ) → x < y → nat_cmp x y ≡ Less
less x y h = sym (nat_cmp_is x y Less h)

equal : (x y : ℕ) → x ≡ y → nat_cmp x y ≡ Equal
equal x y h = sym (nat_cmp_is x y Equal h)

greater : (x y : ℕ) → y < x → nat_cmp x y ≡ Greater
greater x y h = sym (nat_cmp_is x y Greater h)

then_cases : (x y : ℕ) (rest : Ordering) → is_lt (ordering_then (nat_cmp x y) rest) ≡ true → (x < y) ⊎ ((x ≡ y) × (is_lt rest ≡ true))
then_cases x y rest t =
    ⊎_elim (λ same. inr (same, sym (ap (λ o. is_lt (ordering_then o rest)) (equal x y same)) ∙ t))
    (λ other. ⊎_elim (λ below. inl below) (λ above. absurd (both_ways false refl (sym (ap (λ o. is_lt (ordering_then o rest)) (greater x y above)) ∙ t))) other)
    (cases_order x y)

lt_cases : (x y : ℕ) → is_lt (nat_cmp x y) ≡ true → x < y
lt_cases x y t =
    ⊎_elim (λ same. absurd (both_ways false refl (sym (ap is_lt (equal x y same)) ∙ t)))
    (λ other. ⊎_elim (λ below. below) (λ above. absurd (both_ways false refl (sym (ap is_lt (greater x y above)) ∙ t))) other)
    (cases_order x y)

to_before : (a b : Key) → is_before a b ≡ true → Before a b
to_before a b t =
    ⊎_elim (λ below. inl below)
    (λ rest. inr (rest.0, ⊎_elim (λ below. inl below) (λ rest'. inr (rest'.0, lt_cases a.offset b.offset rest'.1)) (then_cases a.kind b.kind (nat_cmp a.offset b.offset) rest.1)))
    (then_cases a.objectid b.objectid (ordering_then (nat_cmp a.kind b.kind) (nat_cmp a.offset b.offset)) t)

from_before : (a b : Key) → Before a b → is_before a b ≡ true
from_before a b (inl below) = ap (λ o. is_lt (ordering_then o (ordering_then (nat_cmp a.kind b.kind) (nat_cmp a.offset b.offset)))) (less a.objectid b.objectid below)
from_before a b (inr (same, inl below)) =
    ap (λ o. is_lt (ordering_then o (ordering_then (nat_cmp a.kind b.kind) (nat_cmp a.offset b.offset)))) (equal a.objectid b.objectid same)
    ∙ ap (λ o. is_lt (ordering_then o (nat_cmp a.offset b.offset))) (less a.kind b.kind below)
from_before a b (inr (same, inr (same', below))) =
    ap (λ o. is_lt (ordering_then o (ordering_then (nat_cmp a.kind b.kind) (nat_cmp a.offset b.offset)))) (equal a.objectid b.objectid same)
    ∙ (ap (λ o. is_lt (ordering_then o (nat_cmp a.offset b.offset))) (equal a.kind b.kind same') ∙ ap is_lt (less a.offset b.offset below))

before_goes_on : (a b c : Key) → Before a b → Before b c → Before a c
before_goes_on a b c (inl x) (inl y) = inl (omega arith)
before_goes_on a b c (inl x) (inr y) = inl (omega (arith, y.0))
before_goes_on a b c (inr x) (inl y) = inl (omega (arith, x.0))
before_goes_on a b c (inr (x, inl p)) (inr (y, inl q)) = inr (x ∙ y, inl (omega arith))
before_goes_on a b c (inr (x, inl p)) (inr (y, inr q)) = inr (x ∙ y, inl (omega (arith, q.0)))
before_goes_on a b c (inr (x, inr p)) (inr (y, inl q)) = inr (x ∙ y, inl (omega (arith, p.0)))
before_goes_on a b c (inr (x, inr p)) (inr (y, inr q)) = inr (x ∙ y, inr (p.0 ∙ q.0, omega (arith, p.1, q.1)))

pub is_before_trans : (a b c : Key) → is_before a b ≡ true → is_before b c ≡ true → is_before a c ≡ true
is_before_trans a b c x y = from_before a c (before_goes_on a b c (to_before a b x) (to_before b c y))

-- a key is before a later one
first_before : (a b : Key) (xs ys : List Key) → ascends (a ∷ (xs ++ b ∷ ys)) ≡ true → is_before a b ≡ true
first_before a b [] ys h = (both (is_before a b) (ascends (b ∷ ys)) h).0
first_before a b (x ∷ xs) ys h =
    let parts = both (is_before a x) (ascends (x ∷ (xs ++ b ∷ ys))) h in
    is_before_trans a x b parts.0 (first_before x b xs ys parts.1)

-- the first keys of some lists, one after the other, ascend where all keys do
pub heads_ascend : (lists : List (List Item)) → All (λ items. 1 ≤ length items) lists → Ascends (keys_of (flat_map (λ items. items) lists)) → Ascends (map first_key lists)
heads_ascend [] full h = refl
heads_ascend ([] ∷ lists) full h = absurd (let some : 1 ≤ length {A = Item} [] = All-head (λ items. 1 ≤ length items) [] lists full in omega arith)
heads_ascend ((i ∷ items) ∷ lists) full h =
    let rest = All-tail (λ items. 1 ≤ length items) (i ∷ items) lists full in
    let cut : keys_of (flat_map (λ items. items) ((i ∷ items) ∷ lists)) ≡ i.0 ∷ (keys_of items ++ keys_of (flat_map (λ items. items) lists)) =
    ap (λ ks. i.0 ∷ ks) (map-append (λ (item : Item). item.0) items (flat_map (λ items. items) lists)) in
    let all : ascends (i.0 ∷ (keys_of items ++ keys_of (flat_map (λ items. items) lists))) ≡ true = sym (ap ascends cut) ∙ h in
    joined (is_before_first i.0 (map first_key lists)) (ascends (map first_key lists)) (before_heads i.0 (keys_of items) lists rest all)
    (heads_ascend lists rest (second_ascends (i.0 ∷ keys_of items) (keys_of (flat_map (λ items. items) lists)) all))
  where
    before_heads : (a : Key) (xs : List Key) (lists : List (List Item)) → All (λ items. 1 ≤ length items) lists
        → ascends (a ∷ (xs ++ keys_of (flat_map (λ items. items) lists))) ≡ true → is_before_first a (map first_key lists) ≡ true
    before_heads a xs [] full h = refl
    before_heads a xs ([] ∷ lists) full h = absurd (let some : 1 ≤ length {A = Item} [] = All-head (λ items. 1 ≤ length items) [] lists full in omega arith)
    before_heads a xs ((i ∷ items) ∷ lists) full h =
        let cut : keys_of (flat_map (λ items. items) ((i ∷ items) ∷ lists)) ≡ i.0 ∷ (keys_of items ++ keys_of (flat_map (λ items. items) lists)) =
        ap (λ ks. i.0 ∷ ks) (map-append (λ (item : Item). item.0) items (flat_map (λ items. items) lists)) in
        first_before a i.0 xs (keys_of items ++ keys_of (flat_map (λ items. items) lists)) (sym (ap (λ ks. ascends (a ∷ (xs ++ ks))) cut) ∙ h)
