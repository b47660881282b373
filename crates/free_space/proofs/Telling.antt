-- The items of groups tell their free runs.
use Rattle.free_space.proofs.Imports.{◌≡◌, ◌≤◌, ◌<◌, ℕ, suc, ◌+◌, cond, List, [], ◌∷◌, ◌++◌, AllPairs, Any, get_or, length, refl, sym, ◌∙◌, ap, subst, ⊎_elim, arith, flat_map, cases_eq, cases_lt, le-ltb, lt-ltb, Item, behind, free_items, gaps, FreeItemsTell, LiesIn, AreFreeRuns, AreRanges, end_of, group_items, Range}
use Rattle.free_space.proofs.Apart.{Up, gaps_exact, gaps_up, up_apart, up_from, up_lower, up_some}

-- what begins before an end ends there too
abbrev pub Kept : ℕ → List Range → Type 0
Kept e [] = Unit {0}
Kept e (u ∷ used) = (u.address < e → end_of u ≤ e) × Kept e used

abbrev pub AllKept : List Range → List Range → Type 0
AllKept [] used = Unit {0}
AllKept (g ∷ groups) used = Kept (end_of g) used × AllKept groups used

kept_behind : (e f : ℕ) (used : List Range) → Kept f used → Kept f (behind e used)
kept_behind e f [] kept = tt
kept_behind e f (u ∷ used) kept =
    ⊎_elim (λ (before : u.address < e). subst (λ t. Kept f (cond t (behind e used) (u ∷ used))) (sym (lt-ltb u.address e before)) (kept_behind e f used kept.1))
    (λ (from : e ≤ u.address). subst (λ t. Kept f (cond t (behind e used) (u ∷ used))) (sym (le-ltb u.address e from)) kept) (cases_lt u.address e)

all_kept_behind : (e : ℕ) (groups used : List Range) → AllKept groups used → AllKept groups (behind e used)
all_kept_behind e [] used kept = tt
all_kept_behind e (g ∷ groups) used kept = (kept_behind e (end_of g) used kept.0, all_kept_behind e groups used kept.1)

-- used ranges that end before an address leave the gaps from there on as they are
skipped : (at end e : ℕ) (used : List Range) → e ≤ at → at < end → Kept e used → gaps at end (behind e used) ≡ gaps at end used
skipped at end e [] low some kept = refl
skipped at end e (u ∷ used) low some kept =
    ⊎_elim (λ (before : u.address < e).
    let past : end_of u ≤ e = kept.0 before in
    let rest : gaps at end (behind e used) ≡ gaps at end used = skipped at end e used low some kept.1 in
    grind (arith, before, past, low, some, rest))
    (λ (from : e ≤ u.address). ap (gaps at end) (subst (λ t. cond t (behind e used) (u ∷ used) ≡ u ∷ used) (sym (le-ltb u.address e from)) refl)) (cases_lt u.address e)

abbrev told : List Range → Range → List Item
told used g = group_items g (gaps g.address (end_of g) used)

told_behind : (e : ℕ) (groups used : List Range) → Up 0 e groups → Kept e used → flat_map (told (behind e used)) groups ≡ flat_map (told used) groups
told_behind e [] used up kept = refl
told_behind e (g ∷ groups) used up kept =
    let same : gaps g.address (end_of g) (behind e used) ≡ gaps g.address (end_of g) used = skipped g.address (end_of g) e used up.0 (omega (arith, up.1)) kept in
    let rest = told_behind e groups used (up_lower 0 e (end_of g + 0) groups (omega (arith, up.0)) up.2) kept in
    ap (λ x. group_items g x ++ flat_map (told (behind e used)) groups) same ∙ ap (λ x. told used g ++ x) rest

pub items_told : (b : ℕ) (groups used : List Range) → Up 0 b groups → AllKept groups used → free_items groups used ≡ flat_map (told used) groups
items_told b [] used up kept = refl
items_told b (g ∷ groups) used up kept =
    let rest : free_items groups (behind (end_of g) used) ≡ flat_map (told (behind (end_of g) used)) groups =
    items_told (end_of g + 0) groups (behind (end_of g) used) up.2 (all_kept_behind (end_of g) groups used kept.1) in
    let same : flat_map (told (behind (end_of g) used)) groups ≡ flat_map (told used) groups = told_behind (end_of g) groups used (up_lower 0 (end_of g) (end_of g + 0) groups (omega arith) up.2) kept.0 in
    ap (λ x. told used g ++ x) (rest ∙ same)

-- each used range lies in a group
kept_by : (groups : List Range) (g : Range) (used : List Range) → AllPairs (λ r s. end_of r ≤ s.address) groups → (j : ℕ) → j < length groups → ((d : Range) → get_or groups j d ≡ g)
    → ((k : ℕ) (d : Range) → k < length used → Any (LiesIn (get_or used k d)) groups) → Kept (end_of g) used
kept_by groups g [] apart j h is inside = tt
kept_by groups g (u ∷ used) apart j h is inside = (
  λ before.
      let there = inside 0 u (omega arith) in
      let x = there.1 in
      ⊎_elim (λ (low : there.0 < j). let e = apart there.0 j x low h in grind (arith, e, there.3, is x, there.4.high))
      (λ (high : j ≤ there.0).
      ⊎_elim (λ (same : there.0 ≡ j). grind (arith, same, there.3, is x, there.4.high)) (λ (other : there.0 ≡ j → ⊥). let e = apart j there.0 x (omega (arith, high, other)) there.2 in grind (arith, e, there.3, is x, there.4.low, before)) (cases_eq there.0 j))
      (cases_lt there.0 j),
  kept_by groups g used apart j h is (λ k d l. inside (suc k) d (omega (arith, l))),
)

all_kept : (all groups used : List Range) → AllPairs (λ r s. end_of r ≤ s.address) all → (first : ℕ) → ((k : ℕ) (d : Range) → k < length groups → (first + k < length all) × (get_or all (first + k) d ≡ get_or groups k d))
    → ((k : ℕ) (d : Range) → k < length used → Any (LiesIn (get_or used k d)) all) → AllKept groups used
all_kept all [] used apart first there inside = tt
all_kept all (g ∷ groups) used apart first there inside = (
  kept_by all g used apart (first + 0) (there 0 g (omega arith)).0 (λ d. (there 0 d (omega arith)).1) inside,
  all_kept all groups used apart (first + 1) (λ k d h. let t = there (suc k) d (omega (arith, h)) in (omega (arith, t.0), ap (λ n. get_or all n d) (let e : first + 1 + k ≡ first + suc k = omega arith in e) ∙ t.1)) inside,
)

runs_free : (used : List Range) (g : Range) → AreRanges used → AreFreeRuns used g (gaps g.address (end_of g) used)
runs_free used g are =
    let up : Up 0 0 used = up_from used are 0 (λ k d h. omega arith) in
    let runs : Up 1 g.address (gaps g.address (end_of g) used) = gaps_up 0 g.address (end_of g) used up in
    record {
      exact = λ a. gaps_exact 0 g.address (end_of g) used a up;
      some = up_some 1 g.address (gaps g.address (end_of g) used) runs;
      apart = λ i j d l h. let e = up_apart 1 g.address (gaps g.address (end_of g) used) runs i j d l h in omega (arith, e);
    }

pub free_items_tell : FreeItemsTell
free_items_tell groups used are = record {
  runs = λ g. gaps g.address (end_of g) used;
  are_runs = λ k d h. runs_free used (get_or groups k d) are.used_;
  items_are = items_told 0 groups used (up_from groups are.groups_ 0 (λ k d h. omega arith)) (all_kept groups groups used are.groups_.ascending 0 (λ k d h. (omega (arith, h), ap (λ n. get_or groups n d) (let e : 0 + k ≡ k = omega arith in e))) are.inside);
}
