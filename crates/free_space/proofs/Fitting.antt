-- The items of groups ascend by key, and are short.
use Rattle.free_space.proofs.Imports.{◌≡◌, ◌≤◌, ◌<◌, ℕ, ◌+◌, ◌-◌, max, cond, true, List, [], ◌∷◌, ◌++◌, All, length, map, refl, sym, subst, ⊎_elim, arith, and_from, cases_lt, le-ltb, lt-ltb, Item, keys_of, behind, free_items, gap, gaps, free_info_layout, FreeItemsFit, end_of, info_item, run_item, Range, All-append, All-cons, All-map}
use Rattle.btr_node.specs.btr_keys.declared.key.Key.{Key}
use Rattle.btr_node.specs.Order.{Ascends, ascends, is_before, is_before_first}
use Rattle.free_space.proofs.Apart.{Up, gaps_up, up_from, up_lower}

-- the first key has an address from one on
abbrev pub From : ℕ → List Item → Type 0
From b [] = Unit {0}
From b (i ∷ items) = b ≤ i.0.objectid

-- the runs end before an end
abbrev pub EndBy : ℕ → List Range → Type 0
EndBy e [] = Unit {0}
EndBy e (r ∷ runs) = (end_of r ≤ e) × EndBy e runs

end_append : (e : ℕ) (runs more : List Range) → EndBy e runs → EndBy e more → EndBy e (runs ++ more)
end_append e [] more by by' = by'
end_append e (r ∷ runs) more by by' = (by.0, end_append e runs more by.1 by')

gap_ends : (at end e : ℕ) → end ≤ e → EndBy e (gap at end)
gap_ends at end e low =
    ⊎_elim (λ (some : at < end). subst (λ t. EndBy e (cond t (record { address = at; length = end - at } ∷ []) [])) (sym (lt-ltb at end some)) (omega (arith, some, low), tt))
    (λ (none : end ≤ at). subst (λ t. EndBy e (cond t (record { address = at; length = end - at } ∷ []) [])) (sym (le-ltb at end none)) tt) (cases_lt at end)

gaps_end : (at end : ℕ) (used : List Range) → EndBy end (gaps at end used)
gaps_end at end [] = gap_ends at end end (omega arith)
gaps_end at end (u ∷ used) =
    ⊎_elim (λ (within : u.address < end). subst (λ t. EndBy end (cond t (gap at u.address ++ gaps (max at (end_of u)) end used) (gap at end))) (sym (lt-ltb u.address end within))
    (end_append end (gap at u.address) (gaps (max at (end_of u)) end used) (gap_ends at u.address end (omega (arith, within))) (gaps_end (max at (end_of u)) end used)))
    (λ (past : end ≤ u.address). subst (λ t. EndBy end (cond t (gap at u.address ++ gaps (max at (end_of u)) end used) (gap at end))) (sym (le-ltb u.address end past)) (gap_ends at end end (omega arith)))
    (cases_lt u.address end)

cons_ascends : (i : Item) (items : List Item) → is_before_first i.0 (keys_of items) ≡ true → Ascends (keys_of items) → Ascends (keys_of (i ∷ items))
cons_ascends i items first rest = and_from (is_before_first i.0 (keys_of items)) (ascends (keys_of items)) first rest

lower_first : (i : Item) (items : List Item) → From (i.0.objectid + 1) items → is_before_first i.0 (keys_of items) ≡ true
lower_first i [] from = refl
lower_first i (j ∷ items) from = grind (arith, from)

from_lower : (b c : ℕ) (items : List Item) → b ≤ c → From c items → From b items
from_lower b c [] low from = tt
from_lower b c (i ∷ items) low from = omega (arith, low, from)

runs_from : (b e : ℕ) (runs : List Range) (items : List Item) → b ≤ e → Up 1 b runs → From e items → From b (map run_item runs ++ items)
runs_from b e [] items low up from = from_lower b e items low from
runs_from b e (r ∷ runs) items low up from = up.0

runs_ascend : (b e : ℕ) (runs : List Range) (items : List Item) → Up 1 b runs → EndBy e runs → From e items → Ascends (keys_of items) → Ascends (keys_of (map run_item runs ++ items))
runs_ascend b e [] items up by from rest = rest
runs_ascend b e (r ∷ runs) items up by from rest =
    cons_ascends (run_item r) (map run_item runs ++ items) (lower_first (run_item r) (map run_item runs ++ items) (runs_from (r.address + 1) e runs items (omega (arith, by.0, up.1)) (up_lower 1 (r.address + 1) (end_of r + 1) runs (omega arith) up.2) from)) (runs_ascend (end_of r + 1) e runs items up.2 by.1 from rest)

first_by_object : (k l : Key) → k.objectid < l.objectid → is_before k l ≡ true
first_by_object k l less = grind (arith, less)

first_by_kind : (k l : Key) → k.objectid ≡ l.objectid → k.kind < l.kind → is_before k l ≡ true
first_by_kind k l same less = grind (arith, same, less)

-- the item of a group comes before those of its runs
info_first : (g : Range) (count : ℕ) (runs : List Range) (items : List Item) → Up 1 g.address runs → From (g.address + 1) items → is_before_first (info_item g count).0 (keys_of (map run_item runs ++ items)) ≡ true
info_first g count [] items up from = lower_first (info_item g count) items from
info_first g count (r ∷ runs) items up from =
    ⊎_elim (λ (later : g.address < r.address). first_by_object (info_item g count).0 (run_item r).0 later)
    (λ (here : r.address ≤ g.address). first_by_kind (info_item g count).0 (run_item r).0 (omega (arith, here, up.0)) (omega arith)) (cases_lt g.address r.address)

up_behind : (b e : ℕ) (used : List Range) → Up 0 b used → Up 0 b (behind e used)
up_behind b e [] up = tt
up_behind b e (u ∷ used) up =
    ⊎_elim (λ (before : u.address < e). subst (λ t. Up 0 b (cond t (behind e used) (u ∷ used))) (sym (lt-ltb u.address e before)) (up_behind b e used (up_lower 0 b (end_of u + 0) used (omega (arith, up.0)) up.2)))
    (λ (from : e ≤ u.address). subst (λ t. Up 0 b (cond t (behind e used) (u ∷ used))) (sym (le-ltb u.address e from)) up) (cases_lt u.address e)

ends_later : (e f : ℕ) (runs : List Range) → e ≤ f → EndBy e runs → EndBy f runs
ends_later e f [] low by = tt
ends_later e f (r ∷ runs) low by = (omega (arith, by.0, low), ends_later e f runs low by.1)

groups_ascend : (b : ℕ) (groups used : List Range) → Up 0 b groups → Up 0 0 used → Ascends (keys_of (free_items groups used)) × From b (free_items groups used)
groups_ascend b [] used up used_up = (refl, tt)
groups_ascend b (g ∷ groups) used up used_up =
    let behind_up : Up 0 0 (behind (end_of g) used) = up_behind 0 (end_of g) used used_up in
    let rest = groups_ascend (end_of g + 0) groups (behind (end_of g) used) up.2 behind_up in
    let runs = gaps g.address (end_of g) used in
    let runs_up : Up 1 g.address runs = gaps_up 0 g.address (end_of g) used used_up in (
      cons_ascends (info_item g (length runs)) (map run_item runs ++ free_items groups (behind (end_of g) used))
          (info_first g (length runs) runs (free_items groups (behind (end_of g) used)) runs_up (from_lower (g.address + 1) (end_of g + 0) _ (omega (arith, up.1)) rest.1))
          (runs_ascend g.address (end_of g + 0) runs (free_items groups (behind (end_of g) used)) runs_up (ends_later (end_of g) (end_of g + 0) runs (omega arith) (gaps_end g.address (end_of g) used)) rest.1 rest.0),
      up.0,
    )

short_runs : (runs : List Range) → All (λ i. length i.1 ≤ 8) (map run_item runs)
short_runs runs = All-map (λ i. length i.1 ≤ 8) run_item runs (λ k d h. omega arith)

short_info : (g : Range) (count : ℕ) → length (info_item g count).1 ≤ 8
unfolding free_info_layout
short_info g count = omega arith

short_groups : (groups used : List Range) → All (λ i. length i.1 ≤ 8) (free_items groups used)
short_groups [] used = λ k d h. absurd (omega (arith, h))
short_groups (g ∷ groups) used =
    let runs = gaps g.address (end_of g) used in
    All-cons (λ i. length i.1 ≤ 8) (info_item g (length runs)) (map run_item runs ++ free_items groups (behind (end_of g) used)) (short_info g (length runs))
    (All-append (λ i. length i.1 ≤ 8) (map run_item runs) (free_items groups (behind (end_of g) used)) (short_runs runs) (short_groups groups (behind (end_of g) used)))

pub free_items_fit : FreeItemsFit
free_items_fit groups used are = record {
  ascend = (groups_ascend 0 groups used (up_from groups are.groups_ 0 (λ k d h. omega arith)) (up_from used are.used_ 0 (λ k d h. omega arith))).0;
  short = short_groups groups used;
}
