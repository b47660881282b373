-- What ascending keys give a visitor.
use Rattle.btr_check_walk.proofs.Imports.{◌≡◌, ℕ, Bool, true, false, List, [], ◌∷◌, ◌++◌, length, Option, Some, None, if◌then◌else◌, refl, ap, arith, ◌≤◌, nat_cmp, All, Key, TreeItem, at_address, is_above, order_damages, BtrRefusal, InOrder, All-cons, All-nil, KeyOrder}
use Rattle.std.specs.Ordering.{is_lt, ordering_then}
use Rattle.std.specs.declared.cmp.Ordering.{Ordering}
use Rattle.std.specs.declared.cmp.Ordering.TheVariants.{Less, Equal, Greater}
use Rattle.std.proofs.lemmas.Bool.Decides.{nat_tests}
use Rattle.btr_check_rules.specs.btr_reader.btr_node.Order.{is_before}

none_both : {A : Type 0} (xs ys : List A) → xs ++ ys ≡ [] → (xs ≡ []) × (ys ≡ [])
none_both [] ys none = (refl, none)
none_both (x ∷ xs) ys none = absurd (let long = ap length none in omega (arith, long))

first_less : (a b : ℕ) (o r : Ordering) → nat_cmp a b ≡ o → is_lt (ordering_then o r) ≡ true → a ≤ b
first_less a b Less r is h = grind (arith, nat_tests, is)
first_less a b Equal r is h = grind (arith, nat_tests, is)
first_less a b Greater r is h = absurd (cc h)

before : (a b : Key) → is_before a b ≡ true → a.objectid ≤ b.objectid
before a b h = first_less a.objectid b.objectid (nat_cmp a.objectid b.objectid) (ordering_then (nat_cmp a.kind b.kind) (nat_cmp a.offset b.offset)) refl h

in_order : (address : ℕ) (b : Bool) → at_address address (if b then [] else KeyOrder ∷ []) ≡ [] → b ≡ true
in_order address true none = refl
in_order address false none = absurd (let long = ap length none in omega (arith, long))

next_later : (last : Key) (i : TreeItem) (rest : List BtrRefusal) → at_address i.leaf (if is_before last i.key then [] else KeyOrder ∷ []) ++ rest ≡ [] → last.objectid ≤ i.key.objectid
next_later last i rest none = before last i.key (in_order i.leaf (is_before last i.key) (none_both (at_address i.leaf (if is_before last i.key then [] else KeyOrder ∷ [])) rest none).0)

later : (last : Key) (items : List TreeItem) (i : TreeItem) → order_damages (Some last) (items ++ i ∷ []) ≡ [] → last.objectid ≤ i.key.objectid
later last [] i none = next_later last i [] none
later last (j ∷ items) i none =
    let first = next_later last j (order_damages (Some j.key) (items ++ i ∷ [])) none in
    let rest = later j.key items i (none_both (at_address j.leaf (if is_before last j.key then [] else KeyOrder ∷ [])) (order_damages (Some j.key) (items ++ i ∷ [])) none).1 in
    omega (arith, first, rest)

all_later : (last : Option Key) (items : List TreeItem) (i : TreeItem) → order_damages last (items ++ i ∷ []) ≡ [] → All (λ j. j.key.objectid ≤ i.key.objectid) items
all_later last [] i none = All-nil (λ (j : TreeItem). j.key.objectid ≤ i.key.objectid)
all_later last (j ∷ items) i none =
    let rest = (none_both (at_address j.leaf (if is_above last j.key then [] else KeyOrder ∷ [])) (order_damages (Some j.key) (items ++ i ∷ [])) none).1 in
    All-cons (λ (k : TreeItem). k.key.objectid ≤ i.key.objectid) j items (later j.key items i rest) (all_later (Some j.key) items i rest)

-- no item before has a greater objectid
pub objects_ascend : (items : List TreeItem) (i : TreeItem) → InOrder (items ++ i ∷ []) → All (λ j. j.key.objectid ≤ i.key.objectid) items
objects_ascend items i order = all_later None items i order
