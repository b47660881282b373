-- Which entries and names may be noted.
use Rattle.btr_check_names.proofs.Imports.{◌≡◌, ◌≢◌, ℕ, zero, suc, ◌+◌, ◌<◌, ◌≤◌, ◌⊎◌, inl, inr, ⊎_elim, Bool, true, false, cond, List, [], ◌∷◌, ◌++◌, length, map, get_or, filter, refl, sym, ap, ◌∙◌, subst, arith, Some, eq-eqb, set, cases_eq, cases_lt, get_or-map, length-map, All-contains, All-filter, All-map, All-weaker, filter_passes, AllPairs-cons, AllPairs-filter, IsPermutation-refl, get_or_from_slice_get, slice_get_within, AllPairs, Contains, slice_get, IsPermutation, IsTooMany, chosen, BackName, DifferInName, IndexEntry, NamedEntry, back_name, names_inode_item, own_name, AreNames, HasName, IsNamedAt, NoneNamedBut, back_names, given, named}
use Rattle.std.specs.List.{All}
use Rattle.btr_check_names.proofs.Marking.{absent, chosen_all, marked_one, met_before, met_one, not_same, short_of}
use Rattle.btr_check_names.proofs.Permuting.{Contains_unfiltered, any_of, get_or_any}

-- ---- elements of lists of values

Contains_map : {A B : Type 0} (f : A → B) (xs : List A) (y : B) → Contains (map f xs) y → (x : A) × Contains xs x × (f x ≡ y)
Contains_map {A} f xs y has =
    let count = length-map xs f in
    let within : has.0 < length xs = omega (arith, count, has.1) in
    let d : A = any_of xs has.0 within in
    (get_or xs has.0 d, (has.0, within, get_or_any xs has.0 d (get_or xs has.0 d) within), sym (get_or-map f xs has.0 d y within) ∙ has.2)

Contains_cases : {A : Type 0} (y : A) (ys : List A) (x : A) → Contains (y ∷ ys) x → (y ≡ x) ⊎ Contains ys x
Contains_cases y ys x (zero, within, is) = inl is
Contains_cases y ys x (suc k, within, is) = inr (k, omega arith, is)

pairs_map : {A B : Type 0} (R : A → A → Type 0) (S : B → B → Type 0) (f : A → B) → ((a b : A) → R a b → S (f a) (f b)) → (xs : List A) → AllPairs R xs → AllPairs S (map f xs)
pairs_map {A} R S f gives xs pairs i j e less within =
    let count = length-map xs f in
    let inside : j < length xs = omega arith in
    let d : A = any_of xs j inside in
    let first = get_or-map f xs i d e (omega arith) in
    let second = get_or-map f xs j d e inside in
    rw (first, second) (gives (get_or xs i d) (get_or xs j d) (pairs i j d less inside))

pub filter_true : {A : Type 0} (xs : List A) → filter (λ (x : A). true) xs ≡ xs
filter_true [] = refl
filter_true (x ∷ xs) = ap (λ l. x ∷ l) (filter_true xs)

-- ---- which entry has a name

module _ (entries : List IndexEntry) (once : AllPairs DifferInName entries) where
  only_one : (dir : ℕ) (name : List ℕ) (i : ℕ) (at : IsNamedAt entries dir name i) (f : IndexEntry) → Contains entries f → HasName dir name f → f ≡ at.0
  only_one dir name i at f has same =
      let e : IndexEntry = at.0 in
      let here : get_or entries i f ≡ e = get_or_from_slice_get entries i e f at.1 in
      let within = slice_get_within entries i e at.1 in
      let dirs : e.entry.dir ≡ f.entry.dir = at.2.0 ∙ sym same.0 in
      let names : e.entry.name ≡ f.entry.name = at.2.1 ∙ sym same.1 in
      ⊎_elim (λ is. sym has.2 ∙ (ap (λ (k : ℕ). get_or entries k f) (sym is) ∙ here))
      (λ apart. ⊎_elim
      (λ less. absurd (pairs_differ i has.0 f e f less has.1 here has.2 (dirs, names)))
      (λ not_less. absurd (pairs_differ has.0 i f f e (below i has.0 apart not_less) within has.2 here (sym dirs, sym names)))
      (cases_lt i has.0))
      (cases_eq i has.0)
    where
      below : (i j : ℕ) → (i ≡ j → ⊥) → j ≤ i → j < i
      below i j apart le = omega arith

      pairs_differ : (i j : ℕ) (d x y : IndexEntry) → i < j → j < length entries → get_or entries i d ≡ x → get_or entries j d ≡ y → DifferInName x y
      pairs_differ i j d x y less within first second = subst (λ (a : IndexEntry). DifferInName a y) first (subst (DifferInName (get_or entries i d)) second (once i j d less within))

  pub named_once : AllPairs ◌≢◌ (named entries)
  named_once = pairs_map DifferInName ◌≢◌ (λ (e : IndexEntry). e.entry) (λ a b differ is. differ (ap (λ (n : NamedEntry). n.dir) is, ap (λ (n : NamedEntry). n.name) is)) entries once

  pub other_entry : (x : NamedEntry) (i : ℕ) (at : IsNamedAt entries x.dir x.name i) → ¬ (at.0.entry ≡ x) → ¬ Contains (named entries) x
  other_entry x i at not_so has =
      let found = Contains_map (λ (e : IndexEntry). e.entry) entries x has in
      let same = only_one x.dir x.name i at found.0 found.1 (ap (λ (n : NamedEntry). n.dir) found.2, ap (λ (n : NamedEntry). n.name) found.2) in
      not_so (sym (ap (λ (e : IndexEntry). e.entry) same) ∙ found.2)

  pub other_name : (x : BackName) (i : ℕ) (at : IsNamedAt entries x.dir x.name i) → ¬ ((names_inode_item at.0 ≡ true) × (back_name at.0 ≡ x)) → ¬ Contains (back_names entries) x
  other_name x i at not_so has =
      let found = Contains_map back_name (filter names_inode_item entries) x has in
      let passes = All-contains (λ (e : IndexEntry). names_inode_item e ≡ true) (filter names_inode_item entries) found.0 (filter_passes names_inode_item entries) found.1 in
      let same = only_one x.dir x.name i at found.0 (Contains_unfiltered names_inode_item entries found.0 found.1) (ap (λ (n : BackName). n.dir) found.2, ap (λ (n : BackName). n.name) found.2) in
      not_so (subst (λ (e : IndexEntry). (names_inode_item e ≡ true) × (back_name e ≡ x)) same (passes, found.2))

pub given_once : (entries : List IndexEntry) → AreNames entries → AllPairs ◌≢◌ (given entries)
given_once entries are =
    AllPairs-cons ◌≢◌ own_name (back_names entries)
    (All-map (λ (n : BackName). own_name ≢ n) back_name (filter names_inode_item entries)
    (All-weaker (λ (e : IndexEntry). 1 ≤ e.index) (λ (e : IndexEntry). own_name ≢ back_name e) not_own (filter names_inode_item entries) (All-filter names_inode_item (λ (e : IndexEntry). 1 ≤ e.index) entries are.indexed)))
    (pairs_map DifferInName ◌≢◌ back_name (λ a b differ is. differ (ap (λ (n : BackName). n.dir) is, ap (λ (n : BackName). n.name) is)) (filter names_inode_item entries) (AllPairs-filter DifferInName names_inode_item entries are.once))
  where
    not_own : (e : IndexEntry) → 1 ≤ e.index → own_name ≢ back_name e
    not_own e some is = let none : 0 ≡ e.index = ap (λ (n : BackName). n.index) is in omega arith

-- ---- no entry has a name

module _ (entries : List IndexEntry) (but : ℕ) (past : length entries ≤ but) where
  entry_at : (e : IndexEntry) → Contains entries e → (i : ℕ) × (i ≢ but) × (slice_get entries i ≡ Some e)
  entry_at e has = (has.0, (λ is. not_past has.0 has.1 is), at entries has.0 has.1 has.2)
    where
      not_past : (k : ℕ) → k < length entries → k ≡ but → ⊥
      not_past k within is = omega arith

      at : (xs : List IndexEntry) (k : ℕ) → k < length xs → get_or xs k e ≡ e → slice_get xs k ≡ Some e
      at [] k within is = absurd (omega arith)
      at (x ∷ xs) zero within is = ap (λ (y : IndexEntry). Some y) is
      at (x ∷ xs) (suc k) within is = at xs k (omega arith) is

  pub no_entry : (x : NamedEntry) → NoneNamedBut entries but x.dir x.name → ¬ Contains (named entries) x
  no_entry x none has =
      let found = Contains_map (λ (e : IndexEntry). e.entry) entries x has in
      let at = entry_at found.0 found.1 in
      none at.0 at.1 (found.0, at.2, (ap (λ (n : NamedEntry). n.dir) found.2, ap (λ (n : NamedEntry). n.name) found.2))

  pub no_name : (x : BackName) → NoneNamedBut entries but x.dir x.name → ¬ Contains (back_names entries) x
  no_name x none has =
      let found = Contains_map back_name (filter names_inode_item entries) x has in
      let at = entry_at found.0 (Contains_unfiltered names_inode_item entries found.0 found.1) in
      none at.0 at.1 (found.0, at.2, (ap (λ (n : BackName). n.dir) found.2, ap (λ (n : BackName). n.name) found.2))

pub not_given : (entries : List IndexEntry) (x : BackName) → x ≢ own_name → ¬ Contains (back_names entries) x → ¬ Contains (given entries) x
not_given entries x other none has = ⊎_elim (λ is. other (sym is)) none (Contains_cases own_name (back_names entries) x has)
