-- Items that tell the free space of groups tell it of each of them.
use Rattle.free_space.proofs.Imports.{◌≡◌, ◌≤◌, ◌<◌, ℕ, suc, zero, ◌+◌, ◌-◌, ◌^◌, true, false, List, [], ◌∷◌, ◌++◌, All, flat_map, get_or, length, length-append, map, refl, sym, ap, ◌∙◌, ◌⊎◌, inl, inr, arith, append_assoc, All-append, All-cons, All-head, All-nil, All-tail, Item, AreFreeRuns, end_of, is_in, is_in_any, group_items, info_item, run_item, free_info_layout, Range, FreeSpaceIsTold}
use Rattle.std.proofs.lemmas.List.{length-map}
use Rattle.free_space.specs.Told.{IsAtInfo, TellsGroup, meets}
use Rattle.free_space.proofs.Apart.{Up, up_from, up_low}
use Rattle.free_space.proofs.Infos.{free_infos_read_back}

-- the range of an item lies in a group, and is not empty
abbrev pub IsOf : Range → Item → Type 0
IsOf g i = (g.address ≤ i.0.objectid) × (1 ≤ i.0.offset) × (i.0.objectid + i.0.offset ≤ end_of g)

meets_no_other : (g h : Range) (i : Item) → (end_of h ≤ g.address) ⊎ (end_of g ≤ h.address) → IsOf h i → meets g i ≡ false
meets_no_other g h i (inl before) of = grind (arith, before, of.0, of.1, of.2)
meets_no_other g h i (inr behind) of = grind (arith, behind, of.0, of.1, of.2)

drop_other : (g h : Range) (items : List Item) → (end_of h ≤ g.address) ⊎ (end_of g ≤ h.address) → All (IsOf h) items → All (λ i. meets g i ≡ false) items
drop_other g h items apart of = λ k d l. meets_no_other g h (get_or items k d) apart (of k d l)

-- ---- the items of a group among those of all

module _ (runs : Range → List Range) where
  abbrev told : Range → List Item
  told g = group_items g (runs g)

  abbrev AreOwn : List Range → Type 0
  AreOwn groups = All (λ g. All (IsOf g) (told g)) groups

  none_behind : (g : Range) (b : ℕ) (groups : List Range) → end_of g ≤ b → Up 0 b groups → AreOwn groups → All (λ i. meets g i ≡ false) (flat_map told groups)
  none_behind g b [] low up own = All-nil (λ i. meets g i ≡ false)
  none_behind g b (h ∷ groups) low up own =
      All-append (λ i. meets g i ≡ false) (told h) (flat_map told groups)
      (drop_other g h (told h) (inr (omega (arith, low, up.0))) (All-head (λ g. All (IsOf g) (told g)) h groups own))
      (none_behind g (end_of h + 0) groups (omega (arith, low, up.0, up.1)) up.2 (All-tail (λ g. All (IsOf g) (told g)) h groups own))

  at_group : (groups : List Range) → IsAtInfo (flat_map told groups)
  at_group [] = tt
  at_group (g ∷ groups) = refl

  -- the items before those of a group and behind them
  record Around (g : Range) (groups : List Range) : Type 0 where
    before : List Item
    after : List Item
    items_are : flat_map told groups ≡ before ++ (told g ++ after)
    at_info : IsAtInfo after
    apart : All (λ i. meets g i ≡ false) before × All (λ i. meets g i ≡ false) after

  around : (b : ℕ) (groups : List Range) → Up 0 b groups → AreOwn groups → (k : ℕ) (d : Range) → k < length groups → Around (get_or groups k d) groups
  around b [] up own k d h = absurd (omega (arith, h))
  around b (g ∷ groups) up own zero d h = record {
    before = [];
    after = flat_map told groups;
    items_are = refl;
    at_info = at_group groups;
    apart = (All-nil (λ i. meets g i ≡ false), none_behind g (end_of g + 0) groups (omega arith) up.2 (All-tail (λ g. All (IsOf g) (told g)) g groups own));
  }
  around b (h ∷ groups) up own (suc k) d l =
      let g = get_or groups k d in
      let low = up_low 0 (end_of h + 0) groups up.2 k d (omega (arith, l)) in
      let rest = around (end_of h + 0) groups up.2 (All-tail (λ g. All (IsOf g) (told g)) h groups own) k d (omega (arith, l)) in
      record {
        before = told h ++ rest.before;
        after = rest.after;
        items_are = ap (λ is. told h ++ is) rest.items_are ∙ sym (append_assoc (told h) rest.before (told g ++ rest.after));
        at_info = rest.at_info;
        apart = (All-append (λ i. meets g i ≡ false) (told h) rest.before (drop_other g h (told h) (inl (omega (arith, low))) (All-head (λ g. All (IsOf g) (told g)) h groups own)) rest.apart.0, rest.apart.1);
      }

-- ---- free runs lie in their group

in_first : (r : Range) (runs : List Range) (a : ℕ) → is_in a r ≡ true → is_in_any (r ∷ runs) a ≡ true
in_first r runs a is = grind (arith, is)

in_later : (r : Range) (runs : List Range) (a : ℕ) → is_in_any runs a ≡ true → is_in_any (r ∷ runs) a ≡ true
in_later r runs a is = grind (arith, is)

run_of : (g r : Range) → 1 ≤ r.length → ((a : ℕ) → is_in a r ≡ true → is_in a g ≡ true) → IsOf g (run_item r)
run_of g r some inside =
    let first : is_in r.address g ≡ true = inside r.address (grind (arith, some)) in
    let last : is_in (end_of r - 1) g ≡ true = inside (end_of r - 1) (grind (arith, some)) in
    (grind (arith, first), some, grind (arith, last, some))

runs_of : (g : Range) (runs : List Range) → All (λ r. 1 ≤ r.length) runs → ((a : ℕ) → is_in_any runs a ≡ true → is_in a g ≡ true) → All (IsOf g) (map run_item runs)
runs_of g [] some inside = All-nil (IsOf g)
runs_of g (r ∷ runs) some inside =
    All-cons (IsOf g) (run_item r) (map run_item runs) (run_of g r (some 0 r (omega arith)) (λ a is. inside a (in_first r runs a is)))
    (runs_of g runs (All-tail (λ r. 1 ≤ r.length) r runs some) (λ a is. inside a (in_later r runs a is)))

pub group_of : (used : List Range) (g : Range) (runs : List Range) → 1 ≤ g.length → AreFreeRuns used g runs → All (IsOf g) (group_items g runs)
group_of used g runs some are =
    All-cons (IsOf g) (info_item g (length runs)) (map run_item runs) (omega arith, some, omega arith) (runs_of g runs are.some (λ a is. let e = are.exact a in grind (arith, e, is)))

-- ---- each group is told

-- a list of runs is shorter than the items of its group
few_runs : (g : Range) (runs : List Range) (items before after : List Item) → items ≡ before ++ (group_items g runs ++ after) → length items ≤ 2 ^ 32 → length runs < 2 ^ 32
few_runs g runs items before after are few =
    let whole = ap length are in
    let first = length-append before (group_items g runs ++ after) in
    let own = length-append (group_items g runs) after in
    let mapped = length-map runs run_item in
    omega (arith, whole, first, own, mapped, few)

told_alone : (used : List Range) (items : List Item) (g : Range) (runs : Range → List Range) (groups : List Range) → AreFreeRuns used g (runs g) → Around runs g groups → items ≡ flat_map (λ g. group_items g (runs g)) groups
    → length items ≤ 2 ^ 32 → TellsGroup used items g
unfolding free_info_layout
told_alone used items g runs groups free around are few = record {
  before = around.before;
  body = (info_item g (length (runs g))).1;
  told = map run_item (runs g);
  after = around.after;
  items_are = are ∙ around.items_are;
  at_info = around.at_info;
  apart = around.apart;
  runs = runs g;
  are_runs = free;
  flags = 0;
  info_is = free_infos_read_back (record { count = length (runs g); flags = 0 }) ((tt, few_runs g (runs g) items around.before around.after (are ∙ around.items_are) few), omega arith);
  tells = inl (refl, refl);
}

pub free_space_is_told : FreeSpaceIsTold
free_space_is_told groups used items are tells few = λ k d h.
    let own : AreOwn tells.runs groups = λ k d h. group_of used (get_or groups k d) (tells.runs (get_or groups k d)) (are.some k d h) (tells.are_runs k d h) in
    told_alone used items (get_or groups k d) tells.runs groups (tells.are_runs k d h) (around tells.runs 0 groups (up_from groups are 0 (λ k d h. omega arith)) own k d h) tells.items_are few
