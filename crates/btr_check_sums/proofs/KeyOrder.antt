-- Keys that ascend: each stands before all that come later.
use Rattle.btr_check_sums.proofs.Imports.{◌≡◌, ◌≤◌, ◌<◌, ◌⊎◌, ℕ, Bool, true, false, List, [], ◌∷◌, ◌++◌, length, map, Option, None, Some, if◌then◌else◌, inl, inr, refl, ap, ⊎_elim, arith, nat_tests, All-cons, All-map, All-nil, All, Key, Item, TreeItem, at_address, bare_item, is_above, order_damages, BtrRefusal, InOrder}
use Rattle.std.specs.Ordering.{is_lt, nat_cmp, ordering_then}
use Rattle.std.specs.declared.cmp.Ordering.{Ordering}
use Rattle.std.specs.declared.cmp.Ordering.TheVariants.{Less, Equal, Greater}
use Rattle.btr_check_rules.specs.btr_reader.btr_node.Order.{is_before}
use Rattle.btr_check_rules.specs.btr_reader.refusals.declared.rule.BtrRule.TheVariants.{KeyOrder}

pub record Precedes (a b : Key) : Type 0 where
  pub object : a.objectid ≤ b.objectid
  pub kind : a.objectid ≡ b.objectid → a.kind ≤ b.kind
  pub offset : a.objectid ≡ b.objectid → a.kind ≡ b.kind → a.offset < b.offset

precedes_all : (a b c : Key) → Precedes a b → Precedes b c → Precedes a c
precedes_all a b c p q = record {
  object = let x = p.object in let y = q.object in omega (arith, x, y);
  kind = λ same.
      let x = p.object in
      let y = q.object in
      let first : a.objectid ≡ b.objectid = omega (arith, x, y, same) in
      let second : b.objectid ≡ c.objectid = omega (arith, x, y, same) in
      let low = p.kind first in
      let high = q.kind second in
      omega (arith, low, high);
  offset = λ same kinds.
      let x = p.object in
      let y = q.object in
      let first : a.objectid ≡ b.objectid = omega (arith, x, y, same) in
      let second : b.objectid ≡ c.objectid = omega (arith, x, y, same) in
      let low = p.kind first in
      let high = q.kind second in
      let here : a.kind ≡ b.kind = omega (arith, low, high, kinds) in
      let there : b.kind ≡ c.kind = omega (arith, low, high, kinds) in
      let up = p.offset first here in
      let on = q.offset second there in
      omega (arith, up, on);
}

first_less : (a b : ℕ) (o r : Ordering) → nat_cmp a b ≡ o → is_lt (ordering_then o r) ≡ true → (a < b) ⊎ ((a ≡ b) × (is_lt r ≡ true))
first_less a b Less r is h = inl (less a b is)
  where
    less : (x y : ℕ) → nat_cmp x y ≡ Less → x < y
    less x y e = grind (arith, nat_tests, e)
first_less a b Equal r is h = inr (equal a b is, h)
  where
    equal : (x y : ℕ) → nat_cmp x y ≡ Equal → x ≡ y
    equal x y e = grind (arith, nat_tests, e)
first_less a b Greater r is h = absurd (cc h)

last_less : (a b : ℕ) → is_lt (nat_cmp a b) ≡ true → a < b
last_less a b h = grind (arith, nat_tests, h)

from_before : (a b : Key) → is_before a b ≡ true → Precedes a b
from_before a b h =
    ⊎_elim
    (λ (low : a.objectid < b.objectid). record {
      object = omega (arith, low);
      kind = λ same. absurd (omega (arith, low, same));
      offset = λ same kinds. absurd (omega (arith, low, same));
    })
    (λ (same : (a.objectid ≡ b.objectid) × (is_lt (ordering_then (nat_cmp a.kind b.kind) (nat_cmp a.offset b.offset)) ≡ true)).
    ⊎_elim
    (λ (low : a.kind < b.kind). record {
      object = omega (arith, same.0);
      kind = λ e. omega (arith, low);
      offset = λ e kinds. absurd (omega (arith, low, kinds));
    })
    (λ (kinds : (a.kind ≡ b.kind) × (is_lt (nat_cmp a.offset b.offset) ≡ true)). record {
      object = omega (arith, same.0);
      kind = λ e. omega (arith, kinds.0);
      offset = λ e k. last_less a.offset b.offset kinds.1;
    })
    (first_less a.kind b.kind (nat_cmp a.kind b.kind) (nat_cmp a.offset b.offset) refl same.1))
    (first_less a.objectid b.objectid (nat_cmp a.objectid b.objectid) (ordering_then (nat_cmp a.kind b.kind) (nat_cmp a.offset b.offset)) refl h)

none_both : {A : Type 0} (xs ys : List A) → xs ++ ys ≡ [] → (xs ≡ []) × (ys ≡ [])
none_both [] ys none = (refl, none)
none_both (x ∷ xs) ys none = absurd (let long = ap length none in omega (arith, long))

in_order : (address : ℕ) (b : Bool) → at_address address (if b then [] else KeyOrder ∷ []) ≡ [] → b ≡ true
in_order address true none = refl
in_order address false none = absurd (let long = ap length none in omega (arith, long))

next_later : (last : Key) (i : TreeItem) (rest : List BtrRefusal) → at_address i.leaf (if is_before last i.key then [] else KeyOrder ∷ []) ++ rest ≡ [] → Precedes last i.key
next_later last i rest none = from_before last i.key (in_order i.leaf (is_before last i.key) (none_both (at_address i.leaf (if is_before last i.key then [] else KeyOrder ∷ [])) rest none).0)

later : (last : Key) (items : List TreeItem) (i : TreeItem) → order_damages (Some last) (items ++ i ∷ []) ≡ [] → Precedes last i.key
later last [] i none = next_later last i [] none
later last (j ∷ items) i none =
    precedes_all last j.key i.key (next_later last j (order_damages (Some j.key) (items ++ i ∷ [])) none)
    (later j.key items i (none_both (at_address j.leaf (if is_before last j.key then [] else KeyOrder ∷ [])) (order_damages (Some j.key) (items ++ i ∷ [])) none).1)

all_later : (last : Option Key) (items : List TreeItem) (i : TreeItem) → order_damages last (items ++ i ∷ []) ≡ [] → All (λ j. Precedes j.key i.key) items
all_later last [] i none = All-nil (λ (j : TreeItem). Precedes j.key i.key)
all_later last (j ∷ items) i none =
    let rest = (none_both (at_address j.leaf (if is_above last j.key then [] else KeyOrder ∷ [])) (order_damages (Some j.key) (items ++ i ∷ [])) none).1 in
    All-cons (λ (k : TreeItem). Precedes k.key i.key) j items (later j.key items i rest) (all_later (Some j.key) items i rest)

-- each item stands before the last one
pub items_precede : (items : List TreeItem) (i : TreeItem) → InOrder (items ++ i ∷ []) → All (λ j. Precedes j.0 i.key) (map bare_item items)
items_precede items i order = All-map (λ (j : Item). Precedes j.0 i.key) bare_item items (all_later None items i order)
