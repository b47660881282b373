-- Directories and those that they stand in.
use Rattle.btr_check_names.proofs.Imports.{◌≡◌, ◌≢◌, ◌≤◌, ◌<◌, ◌+◌, ℕ, zero, suc, true, List, [], ◌∷◌, ◌++◌, length, take, get_or, All, Any, Option, Some, None, refl, sym, ap, ◌∙◌, subst, arith, ⊎_elim, ◌⊎◌, inl, inr, IfSome, ◌==◌, ◌&&◌, replicate, set, cases_eq, cases_lt, get_or-replicate, get_or_append_left, length-append, length-replicate, length-set, take_more, All-contains, All-set, Contains-append_left, Contains-push, Contains-push_cases, MatchOption-at_none, MatchOption-at_some, get_or_from_slice_get, slice_get-get_or, slice_get_within, slice_get, MatchOption, IndexEntry, index_entries, names_inode_item, TreeOn, Key, INODE_ITEM, AreAbove, AscendByNumber, IsNamedOnce, IsNumbered, Names, StandIn, StandsBy, Ends, IsPlace, top, under, InodeAt}
use Rattle.std.proofs.Common.{AllPairs, Contains}
use Rattle.btr_check_rules.specs.Inodes.{ComesToEnd, below, unnamed}
use Rattle.btr_check_names.proofs.Numbering.{one_place}

-- ---- elements by their places

get_set_other : {A : Type 0} (xs : List A) (i k : ℕ) (v : A) → (k ≡ i → ⊥) → slice_get (set xs i v) k ≡ slice_get xs k
get_set_other [] i k v apart = refl
get_set_other (x ∷ xs) zero zero v apart = absurd (apart refl)
get_set_other (x ∷ xs) zero (suc k) v apart = refl
get_set_other (x ∷ xs) (suc i) zero v apart = refl
get_set_other (x ∷ xs) (suc i) (suc k) v apart = get_set_other xs i k v (λ is. apart (ap suc is))

get_set_same : {A : Type 0} (xs : List A) (i : ℕ) (v o : A) → slice_get (set xs i v) i ≡ Some o → v ≡ o
get_set_same [] i v o is = let never : None ≡ Some o = is in absurd cc
get_set_same (x ∷ xs) zero v o is = let same : Some v ≡ Some o = is in cc
get_set_same (x ∷ xs) (suc i) v o is = get_set_same xs i v o is

pub there : {A : Type 0} (xs : List A) (i : ℕ) → i < length xs → (x : A) × (slice_get xs i ≡ Some x)
there [] i within = absurd (omega arith)
there (x ∷ xs) zero within = (x, refl)
there (x ∷ xs) (suc i) within = there xs i (omega arith)

same_there : {A : Type 0} (x y : A) (o : Option A) → o ≡ Some x → o ≡ Some y → x ≡ y
same_there x y o first second = let both : Some x ≡ Some y = sym first ∙ second in cc

-- ---- one entry more

module _ (dirs : List InodeAt) (ascend : AscendByNumber dirs) (es : List IndexEntry) (e : IndexEntry) (above : List (Option ℕ)) (are : AreAbove dirs es above) where
  stand_before : StandIn dirs (es ++ e ∷ []) → StandIn dirs es
  stand_before stand k d within =
      let long = length-append es (e ∷ []) in
      subst (λ (f : IndexEntry). Any (λ (i : InodeAt). i.ino ≡ f.entry.dir) dirs) (get_or_append_left es (e ∷ []) d k within) (stand k d (omega arith))

  extend : (ino : ℕ) (o : Option ℕ) → ¬ Names ino e → StandsBy dirs es ino o → StandsBy dirs (es ++ e ∷ []) ino o
  extend ino None not_so none = λ f has. ⊎_elim (λ before. none f before) (λ is. subst (λ (g : IndexEntry). ¬ Names ino g) is not_so) (Contains-push_cases es e f has)
  extend ino (Some j) not_so stands = (stands.0, Contains-append_left es (e ∷ []) stands.0 stands.1, stands.2, stands.3)

  -- it names none of the directories
  pub over_other : ((d : InodeAt) → Contains dirs d → ¬ Names d.ino e) → AreAbove dirs (es ++ e ∷ []) above
  over_other none = record {
    long = are.long;
    places = are.places;
    each = λ stand i d at o is. extend d.ino o (none d (in_dirs i d at)) (are.each (stand_before stand) i d at o is);
  }
    where
      in_dirs : (i : ℕ) (d : InodeAt) → slice_get dirs i ≡ Some d → Contains dirs d
      in_dirs i d at = (i, slice_get_within dirs i d at, get_or_from_slice_get dirs i d d at)

  -- it names one of them
  pub names_one : (to : ℕ) (o : Option ℕ) → names_inode_item e ≡ true → IsNumbered dirs e.entry.location.objectid to → MatchOption o (All (λ (i : InodeAt). i.ino ≢ e.entry.dir) dirs) (IsNumbered dirs e.entry.dir)
      → AreAbove dirs (es ++ e ∷ []) (set above to o)
  names_one to o names at_to found = record {
    long = length-set above to o ∙ are.long;
    places = All-set (IsPlace (length dirs)) above to o (place o found) are.places;
    each = λ stand i d at p is. by stand i d at p is (cases_eq i to);
  }
    where
      place : (q : Option ℕ) → MatchOption q (All (λ (i : InodeAt). i.ino ≢ e.entry.dir) dirs) (IsNumbered dirs e.entry.dir) → IsPlace (length dirs) q
      place None none = tt
      place (Some j) at = slice_get_within dirs j at.0 at.1

      own : StandIn dirs (es ++ e ∷ []) → (q : Option ℕ) → MatchOption q (All (λ (i : InodeAt). i.ino ≢ e.entry.dir) dirs) (IsNumbered dirs e.entry.dir) → (ino : ℕ) → Names ino e → StandsBy dirs (es ++ e ∷ []) ino q
      own stand None none ino is = λ f has. absurd (not_there (All-contains (λ (g : IndexEntry). Any (λ (i : InodeAt). i.ino ≡ g.entry.dir) dirs) (es ++ e ∷ []) e stand (Contains-push es e)))
        where
          not_there : ¬ Any (λ (i : InodeAt). i.ino ≡ e.entry.dir) dirs
          not_there any = none any.0 any.1 any.2 (ap (λ (i : InodeAt). i.ino) any.3 ∙ any.4)
      own stand (Some j) at ino is = (e, Contains-push es e, is, at)

      by : StandIn dirs (es ++ e ∷ []) → (i : ℕ) (d : InodeAt) → slice_get dirs i ≡ Some d → (p : Option ℕ) → slice_get (set above to o) i ≡ Some p → (i ≡ to) ⊎ (i ≡ to → ⊥) → StandsBy dirs (es ++ e ∷ []) d.ino p
      by stand i d at p is (inl here) =
          let value : o ≡ p = get_set_same above to o p (ap (slice_get (set above to o)) (sym here) ∙ is) in
          let same : at_to.0 ≡ d = same_there at_to.0 d (slice_get dirs to) at_to.1 (ap (slice_get dirs) (sym here) ∙ at) in
          subst (StandsBy dirs (es ++ e ∷ []) d.ino) value (own stand o found d.ino (names, sym at_to.2 ∙ ap (λ (x : InodeAt). x.ino) same))
      by stand i d at p is (inr apart) =
          extend d.ino p (λ so. apart (one_place dirs ascend i to d at_to.0 at at_to.1 (sym so.1 ∙ sym at_to.2)))
          (are.each (stand_before stand) i d at p (sym (get_set_other above to i o apart) ∙ is))

pub none_stand : (dirs : List InodeAt) → AreAbove dirs [] (replicate (length dirs) None)
none_stand dirs = record {
  long = length-replicate (length dirs) None;
  places = λ k d within. let long : length (replicate {A = Option ℕ} (length dirs) None) ≡ length dirs = length-replicate (length dirs) None in
      subst (IsPlace (length dirs)) (sym (get_or-replicate (length dirs) k None d (omega arith))) tt;
  each = λ stand i d at o is.
      let none : o ≡ None = sym (get_or_from_slice_get (replicate (length dirs) None) i o None is) ∙ get_or-replicate (length dirs) i None None (slice_get_within dirs i d at) in
      subst (StandsBy dirs [] d.ino) (sym none) (λ e has names. absurd (omega (arith, has.1)));
}

-- ---- what it says of the tree

module _ (t : TreeOn) (dirs : List InodeAt) (entries : List IndexEntry) (above : List (Option ℕ)) (told : index_entries t ≡ entries) (are : AreAbove dirs entries above) (stand : StandIn dirs entries) (once : IsNamedOnce dirs entries) where
  pub comes_up : (i : ℕ) → Ends above i → (d : InodeAt) → slice_get dirs i ≡ Some d → ComesToEnd t d.ino
  comes_up _ (top i none) d at = unnamed d.ino (λ e has names is. are.each stand i d at None none e (subst (λ (l : List IndexEntry). Contains l e) told has) (names, is))
  comes_up _ (under i j up ends) d at =
      let by = are.each stand i d at (Some j) up in
      subst (ComesToEnd t) by.2.1 (below by.0 (subst (λ (l : List IndexEntry). Contains l by.0) (sym told) by.1) by.2.0 (subst (ComesToEnd t) by.3.2 (comes_up j ends by.3.0 by.3.1)))

  one_entry : (ino : ℕ) (d : InodeAt) (e f : IndexEntry) → Contains dirs d → d.ino ≡ ino → Contains entries e → Contains entries f → Names ino e → Names ino f → f ≡ e
  one_entry ino d e f in_dirs is has_e has_f names_e names_f =
      ⊎_elim (λ same. sym has_f.2 ∙ (ap (λ (k : ℕ). get_or entries k f) (sym same) ∙ (any_default entries has_e.0 f e has_e.1 ∙ has_e.2)))
      (λ apart. ⊎_elim (λ less. absurd (differ has_e.0 has_f.0 e f less has_f.1 has_e.2 (any_default entries has_f.0 e f has_f.1 ∙ has_f.2) names_e names_f))
      (λ not_less. absurd (differ has_f.0 has_e.0 f e (lower has_e.0 has_f.0 not_less apart) has_e.1 has_f.2 (any_default entries has_e.0 f e has_e.1 ∙ has_e.2) names_f names_e))
      (cases_lt has_e.0 has_f.0))
      (cases_eq has_e.0 has_f.0)
    where
      lower : (i j : ℕ) → j ≤ i → (i ≡ j → ⊥) → j < i
      lower i j le apart = omega arith

      any_default : (xs : List IndexEntry) (k : ℕ) (a b : IndexEntry) → k < length xs → get_or xs k a ≡ get_or xs k b
      any_default [] k a b within = absurd (omega arith)
      any_default (x ∷ xs) zero a b within = refl
      any_default (x ∷ xs) (suc k) a b within = any_default xs k a b (omega arith)

      differ : (i j : ℕ) (x y : IndexEntry) → i < j → j < length entries → get_or entries i x ≡ x → get_or entries j x ≡ y → Names ino x → Names ino y → ⊥
      differ i j x y less within at_i at_j names_x names_y =
          once i j x less within ino (in_dirs.0, d, in_dirs.1, in_dirs.2, is) (subst (Names ino) (sym at_i) names_x) (subst (Names ino) (sym at_j) names_y)

  pub comes_down : (a : ℕ) → ComesToEnd t a → (i : ℕ) (d : InodeAt) → slice_get dirs i ≡ Some d → d.ino ≡ a → Ends above i
  comes_down _ (unnamed a none) i d at is =
      let found = there above i (let within = slice_get_within dirs i d at in omega (arith, are.long)) in
      by found.0 found.1
    where
      by : (o : Option ℕ) → slice_get above i ≡ Some o → Ends above i
      by None up = top i up
      by (Some j) up =
          let e = are.each stand i d at (Some j) up in
          absurd (none e.0 (subst (λ (l : List IndexEntry). Contains l e.0) (sym told) e.1) e.2.0 (e.2.1 ∙ is))
  comes_down _ (below e has names ends) i d at is =
      let found = there above i (let within = slice_get_within dirs i d at in omega (arith, are.long)) in
      by (comes_down e.entry.dir ends) found.0 found.1
    where
      by : ((j : ℕ) (p : InodeAt) → slice_get dirs j ≡ Some p → p.ino ≡ e.entry.dir → Ends above j) → (o : Option ℕ) → slice_get above i ≡ Some o → Ends above i
      by later None up = absurd (are.each stand i d at None up e (subst (λ (l : List IndexEntry). Contains l e) told has) (names, sym is))
      by later (Some j) up =
          let f = are.each stand i d at (Some j) up in
          let same = one_entry d.ino d e f.0 (i, slice_get_within dirs i d at, get_or_from_slice_get dirs i d d at) refl (subst (λ (l : List IndexEntry). Contains l e) told has) f.1 (names, sym is) f.2 in
          under i j up (later j f.3.0 f.3.1 (f.3.2 ∙ ap (λ (g : IndexEntry). g.entry.dir) same))

-- ---- the step of a loop over entries

module _ (dirs : List InodeAt) (ascend : AscendByNumber dirs) (entries : List IndexEntry) (i : ℕ) (above : List (Option ℕ)) (are : AreAbove dirs (take i entries) above) (within : i < length entries)
    (location : Key) (location_is : (e : IndexEntry) → slice_get entries i ≡ Some e → location ≡ e.entry.location) where
  pub step_over : ((d : InodeAt) → Contains dirs d → ((location.kind == INODE_ITEM) && (location.offset == 0)) ≡ true → location.objectid ≢ d.ino) → AreAbove dirs (take (i + 1) entries) above
  step_over none =
      let found = there entries i within in
      let e : IndexEntry = found.0 in
      let here = location_is e found.1 in
      subst (λ (l : List IndexEntry). AreAbove dirs l above) (sym (take_more entries i e within ∙ ap (λ (f : IndexEntry). take i entries ++ f ∷ []) (get_or_from_slice_get entries i e e found.1)))
      (over_other dirs ascend (take i entries) e above are (λ d has names. none d has (subst (λ (l : Key). ((l.kind == INODE_ITEM) && (l.offset == 0)) ≡ true) (sym here) names.0) (ap (λ (l : Key). l.objectid) here ∙ names.1)))

  pub step_names : (dir : ℕ) → ((e : IndexEntry) → slice_get entries i ≡ Some e → dir ≡ e.entry.dir) → (to : ℕ) (o : Option ℕ) → ((location.kind == INODE_ITEM) && (location.offset == 0)) ≡ true → IsNumbered dirs location.objectid to
      → MatchOption o (All (λ (d : InodeAt). d.ino ≢ dir) dirs) (IsNumbered dirs dir) → AreAbove dirs (take (i + 1) entries) (set above to o)
  step_names dir dir_is to o names at stands =
      let found = there entries i within in
      let e : IndexEntry = found.0 in
      let here = location_is e found.1 in
      subst (λ (l : List IndexEntry). AreAbove dirs l (set above to o)) (sym (take_more entries i e within ∙ ap (λ (f : IndexEntry). take i entries ++ f ∷ []) (get_or_from_slice_get entries i e e found.1)))
      (names_one dirs ascend (take i entries) e above are to o (subst (λ (l : Key). ((l.kind == INODE_ITEM) && (l.offset == 0)) ≡ true) here names)
      (subst (λ (l : Key). IsNumbered dirs l.objectid to) here at)
      (subst (λ (n : ℕ). MatchOption o (All (λ (d : InodeAt). d.ino ≢ n) dirs) (IsNumbered dirs n)) (dir_is e found.1) stands))

-- ---- what a ring says

module _ (t : TreeOn) (dirs : List InodeAt) (entries : List IndexEntry) (above : List (Option ℕ)) (told : index_entries t ≡ entries) (are : AreAbove dirs entries above) (stand : StandIn dirs entries) (once : IsNamedOnce dirs entries)
    (o : Option ℕ) (found : MatchOption o ((i : ℕ) → i < length above → Ends above i) (λ i. (i < length above) × (¬ Ends above i))) where
  pub below_itself : (i : ℕ) (d : InodeAt) → o ≡ Some i → ¬ ComesToEnd t (get_or dirs i d).ino
  below_itself i d is ends =
      let ring = MatchOption-at_some ((i : ℕ) → i < length above → Ends above i) (λ i. (i < length above) × (¬ Ends above i)) i is found in
      ring.1 (comes_down t dirs entries above told are stand once (get_or dirs i d).ino ends i (get_or dirs i d) (slice_get-get_or dirs i d (omega (arith, ring.0, are.long))) refl)

  pub all_come : o ≡ None → (k : ℕ) (d : InodeAt) → k < length dirs → ComesToEnd t (get_or dirs k d).ino
  all_come is k d within =
      let ends = MatchOption-at_none ((i : ℕ) → i < length above → Ends above i) (λ i. (i < length above) × (¬ Ends above i)) is found in
      comes_up t dirs entries above told are stand once k (ends k (omega (arith, within, are.long))) (get_or dirs k d) (slice_get-get_or dirs k d within)
