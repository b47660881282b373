-- A plan has free units, and none twice.
use Rattle.unit_plan.proofs.Imports.{◌≡◌, ℕ, zero, suc, ◌+◌, ◌-◌, ◌<◌, ◌≤◌, ◌&&◌, leb, ltb, not, Bool, true, false, List, [], ◌++◌, length, take, drop, get_or, refl, sym, ◌∙◌, ap, subst, arith, ⊎_elim, AllPairs, Contains, filter, range_with_len, and_parts, and_from, and_left, and_right, or_left, not-true, le-leb, lt-leb, lt-ltb, le-ltb, both_ways, cases_lt, ltb-true, get_or-take, get_or-drop, length-take, length-drop, filter-append, All-filter, All-contains, length-range_with_len, get_or-range_with_len, IsFreeUnit, is_free_unit, free_units, unit_count, AreMaximalRuns, IsInRun, IsMaximalRun, free_runs, Run, decides_free_unit, runs_are_maximal, range_cut, range_contains, contains_filter, all_from_contains, filter_range_same, filter_range_none, is_in, is_other, others, lowest_long, is_spare, spare_runs, usable_units, AreFreeUnits, AreLongRuns, AreUnitsApart, PlansAreSound, units_in, stays, staying}
use Rattle.std.proofs.lemmas.List.{length-append}
use Rattle.std.proofs.lemmas.List.Kept.{AllPairs-filter}
use Rattle.unit_plan.proofs.RunSums.{ascending_few, few_stay}
use Rattle.unit_plan.proofs.Enough.{IsLowest, lowest_is, part_of, other_is}

range_ascends : (a n : ℕ) → AllPairs (λ u v. u < v) (range_with_len a n)
range_ascends a n = λ i j d before h.
    let high : j < n = omega (arith, length-range_with_len a n) in
    let low : i < n = omega (arith, high) in
    omega (arith, get_or-range_with_len a n i d low, get_or-range_with_len a n j d high)

part_ascends : (skip wanted : ℕ) (xs : List ℕ) → AllPairs (λ u v. u < v) xs → AllPairs (λ u v. u < v) (take wanted (drop skip xs))
part_ascends skip wanted xs all = λ i j d before h.
    let few : j < wanted = omega (arith, h, length-take wanted (drop skip xs)) in
    let first : i < wanted = omega (arith, few) in
    let inside : skip + j < length xs = omega (arith, h, length-take wanted (drop skip xs), length-drop skip xs) in
    let low : get_or (take wanted (drop skip xs)) i d ≡ get_or xs (skip + i) d = get_or-take wanted (drop skip xs) i d first ∙ get_or-drop skip xs i d in
    let high : get_or (take wanted (drop skip xs)) j d ≡ get_or xs (skip + j) d = get_or-take wanted (drop skip xs) j d few ∙ get_or-drop skip xs j d in
    let apart : get_or xs (skip + i) d < get_or xs (skip + j) d = all (skip + i) (skip + j) d (omega arith) inside in
    omega (arith, low, high, apart)

pub others_ascend : (used : List Bool) (first n : ℕ) → AllPairs (λ u v. u < v) (others used first n)
unfolding others
others_ascend used first n = AllPairs-filter (λ u v. u < v) (is_other used first n) (range_with_len 0 (unit_count used)) (range_ascends 0 (unit_count used))

-- how many others there are
kept_apart : (p : ℕ → Bool) (a n : ℕ) → ((u : ℕ) → a ≤ u → u < a + n → p u ≡ true) → length (filter p (range_with_len a n)) ≡ n
kept_apart p a zero all = refl
kept_apart p a (suc n) all =
    let rest : length (filter p (range_with_len (a + 1) n)) ≡ n = kept_apart p (a + 1) n (λ u low high. all u (omega arith) (omega arith)) in
    let here : p a ≡ true = all a (omega arith) (omega arith) in rw here (ap suc rest)

three : (p : ℕ → Bool) (a n m : ℕ) → a + n ≤ m
    → length (filter p (range_with_len 0 m)) ≡ length (filter p (range_with_len 0 a)) + length (filter p (range_with_len a n)) + length (filter p (range_with_len (a + n) (m - (a + n))))
three p a n m inside =
    let first : filter p (range_with_len 0 m) ≡ filter p (range_with_len 0 a) ++ filter p (range_with_len a (m - a)) =
    ap (filter p) (range_cut 0 a (m - a) m a (omega arith) (omega arith)) ∙ filter-append p (range_with_len 0 a) (range_with_len a (m - a)) in
    let second : filter p (range_with_len a (m - a)) ≡ filter p (range_with_len a n) ++ filter p (range_with_len (a + n) (m - (a + n))) =
    ap (filter p) (range_cut a n (m - (a + n)) (m - a) (a + n) (omega arith) refl) ∙ filter-append p (range_with_len a n) (range_with_len (a + n) (m - (a + n))) in
    omega (
      arith,
      ap length first,
      ap length second,
      length-append (filter p (range_with_len 0 a)) (filter p (range_with_len a (m - a))),
      length-append (filter p (range_with_len a n)) (filter p (range_with_len (a + n) (m - (a + n)))),
    )

and_true : (t : Bool) → (t && true) ≡ t
and_true true = refl
and_true false = refl

pub others_count : (used : List Bool) (first n : ℕ) → IsLowest used n first → length (others used first n) + n ≡ length (free_units used)
unfolding others free_units
others_count used first n lowest =
    let m : ℕ = unit_count used in
    let p : ℕ → Bool = is_other used first n in
    let q : ℕ → Bool = is_free_unit used in
    let below : filter p (range_with_len 0 first) ≡ filter q (range_with_len 0 first) = filter_range_same p q 0 first (λ u low high. outside q first n u (and_left (leb first u) (ltb u (first + n)) (lt-leb first u (omega arith)))) in
    let inside : filter p (range_with_len first n) ≡ [] = filter_range_none p first n (λ u low high. taken q first n u (and_from (leb first u) (ltb u (first + n)) (le-leb first u low) (lt-ltb u (first + n) high))) in
    let above : filter p (range_with_len (first + n) (m - (first + n))) ≡ filter q (range_with_len (first + n) (m - (first + n))) =
    filter_range_same p q (first + n) (m - (first + n)) (λ u low high. outside q first n u (and_right (leb first u) (ltb u (first + n)) (le-ltb u (first + n) low))) in
    let all : length (filter q (range_with_len first n)) ≡ n = kept_apart q first n lowest.free in
    omega (arith, three p first n m lowest.inside, three q first n m lowest.inside, ap length below, ap length inside, ap length above, all)
  where
    outside : (q : ℕ → Bool) (first n u : ℕ) → is_in first n u ≡ false → (q u && not (is_in first n u)) ≡ q u
    outside q first n u off = ap (λ t. q u && not t) off ∙ and_true (q u)

    taken : (q : ℕ → Bool) (first n u : ℕ) → is_in first n u ≡ true → (q u && not (is_in first n u)) ≡ false
    taken q first n u on = and_right (q u) (not (is_in first n u)) (ap not on)

-- the units for the chunk tree
system_free : (used : List Bool) (first n : ℕ) → IsLowest used n first → AreFreeUnits used n (range_with_len first n)
system_free used first n lowest = record {
  many = length-range_with_len first n;
  ascending = range_ascends first n;
  free = all_from_contains (IsFreeUnit used) (range_with_len first n) (λ u h. let inside = range_contains first n u h in (decides_free_unit used u).0 (lowest.free u inside.0 inside.1));
}

-- others, from some place on
part_free : (used : List Bool) (first n skip wanted : ℕ) → skip + wanted ≤ length (others used first n) → AreFreeUnits used wanted (take wanted (drop skip (others used first n)))
part_free used first n skip wanted enough = record {
  many = omega (arith, length-take wanted (drop skip (others used first n)), length-drop skip (others used first n));
  ascending = part_ascends skip wanted (others used first n) (others_ascend used first n);
  free =
      all_from_contains (IsFreeUnit used) (take wanted (drop skip (others used first n)))
      (λ u h. let other = other_is used first n u (part_of skip wanted (others used first n) u h) in (decides_free_unit used u).0 (and_parts (is_free_unit used u) (not (is_in first n u)) other.passes).0);
}

system_apart : (used : List Bool) (first n skip wanted : ℕ) → AreUnitsApart (range_with_len first n) (take wanted (drop skip (others used first n)))
system_apart used first n skip wanted = λ u a b.
    let other = other_is used first n u (part_of skip wanted (others used first n) u b) in
    let inside = range_contains first n u a in
    let off : is_in first n u ≡ false = not-true (is_in first n u) (and_parts (is_free_unit used u) (not (is_in first n u)) other.passes).1 in
    both_ways (is_in first n u) off (and_from (leb first u) (ltb u (first + n)) (le-leb first u inside.0) (lt-ltb u (first + n) inside.1))

-- two parts of one ascending list, one behind the other
parts_apart : (xs : List ℕ) (m r : ℕ) → AllPairs (λ u v. u < v) xs → AreUnitsApart (take m xs) (take r (drop m xs))
parts_apart xs m r all = λ u a b.
    let i : ℕ = a.0 in
    let j : ℕ = b.0 in
    let first : i < m = omega (arith, a.1, length-take m xs) in
    let second : j < r = omega (arith, b.1, length-take r (drop m xs)) in
    let inside : m + j < length xs = omega (arith, b.1, length-take r (drop m xs), length-drop m xs) in
    let low : get_or xs i u ≡ u = sym (get_or-take m xs i u first) ∙ a.2 in
    let high : get_or xs (m + j) u ≡ u = sym (get_or-drop m xs j u) ∙ (sym (get_or-take r (drop m xs) j u second) ∙ b.2) in
    let apart : get_or xs i u < get_or xs (m + j) u = all i (m + j) u (omega arith) inside in
    omega (arith, low, high, apart)

-- maximal runs that share a number are one
record Meets (r s : Run) (u : ℕ) : Type 0 where
  here : IsInRun r u
  there : IsInRun s u

none_before : (p : ℕ → Bool) (r s : Run) (u : ℕ) → IsMaximalRun p r → IsMaximalRun p s → Meets r s u → r.first ≤ s.first
none_before p r s u one two at =
    ⊎_elim
    (λ (earlier : s.first < r.first).
    absurd (both_ways (p (r.first - 1)) (one.before (r.first - 1) (omega (arith, earlier))) (two.all (r.first - 1) (omega (arith, earlier), omega (arith, earlier, at.here.0, at.there.1)))))
    (λ (later : r.first ≤ s.first). later)
    (cases_lt s.first r.first)

none_behind : (p : ℕ → Bool) (r s : Run) (u : ℕ) → IsMaximalRun p r → IsMaximalRun p s → Meets r s u → s.first + s.count ≤ r.first + r.count
none_behind p r s u one two at =
    ⊎_elim
    (λ (further : r.first + r.count < s.first + s.count).
    absurd (both_ways (p (r.first + r.count)) one.behind (two.all (r.first + r.count) (omega (arith, at.here.1, at.there.0), further))))
    (λ (short : s.first + s.count ≤ r.first + r.count). short)
    (cases_lt (r.first + r.count) (s.first + s.count))

one_run : (p : ℕ → Bool) (r s : Run) (u : ℕ) → IsMaximalRun p r → IsMaximalRun p s → IsInRun r u → IsInRun s u → s ≡ r
one_run p r s u one two here there =
    let at : Meets r s u = record { here = here; there = there } in
    let back : Meets s r u = record { here = there; there = here } in
    let first : s.first ≡ r.first = omega (arith, none_before p r s u one two at, none_before p s r u two one back) in
    let count : s.count ≡ r.count = omega (arith, first, none_behind p r s u one two at, none_behind p s r u two one back) in
    ap (λ (f : ℕ). let run : Run = record { first = f; count = s.count } in run) first ∙ ap (λ (c : ℕ). let run : Run = record { first = r.first; count = c } in run) count

spare_past : (used : List Bool) (system metadata data_ : List ℕ) (u : ℕ) → usable_units used ≤ u → is_spare used system metadata data_ u ≡ false
spare_past used system metadata data_ u past = and_right (ltb 0 u) _ (and_left (ltb u (usable_units used)) _ (le-ltb u (usable_units used) past))

-- the runs of spare units
module _ (used : List Bool) (system metadata data_ : List ℕ) where
  abbrev spare : ℕ → Bool
  spare = is_spare used system metadata data_

  abbrev runs : List Run
  runs = spare_runs used system metadata data_

  pub spare_maximal : AreMaximalRuns spare runs
  unfolding spare_runs
  spare_maximal = runs_are_maximal spare (usable_units used) (spare_past used system metadata data_)

  pub spare_inside : (r : Run) → IsMaximalRun spare r → r.first + r.count ≤ usable_units used
  spare_inside r run =
      let last : ℕ = r.first + r.count - 1 in
      let t = run.all last (omega (arith, run.not_empty), omega (arith, run.not_empty)) in
      let low : last < usable_units used = ltb-true last (usable_units used) (and_parts (ltb last (usable_units used)) _ (and_parts (ltb 0 last) _ t).1).0 in
      omega (arith, low, run.not_empty)

  pub spare_ascend : AllPairs (λ r s. r.first < s.first) runs
  spare_ascend = λ i j d before h. let apart = spare_maximal.ascending i j d before h in omega (arith, apart)

  pub spare_few : units_in runs ≤ usable_units used
  spare_few =
      let all : units_in runs ≤ usable_units used - 0 =
      ascending_few runs 0 (usable_units used) spare_maximal.ascending (λ k d h. omega arith) (λ k d h. spare_inside (get_or runs k d) (spare_maximal.each k d h)) in
      omega (arith, all)

  few_runs : units_in runs ≤ 1024 → AreMaximalRuns spare (staying runs)
  few_runs few = subst (AreMaximalRuns spare) (sym (few_stay runs (λ k d h. (spare_maximal.each k d h).not_empty) few)) spare_maximal

  long_runs : AreLongRuns spare (staying runs)
  unfolding staying
  long_runs = record {
    each = All-filter (stays runs) (IsMaximalRun spare) runs spare_maximal.each;
    ascending = AllPairs-filter (λ r s. r.first + r.count < s.first) (stays runs) runs spare_maximal.ascending;
    long = λ r run enough.
        let found = spare_maximal.whole r.first (run.all r.first (omega arith, omega (arith, run.not_empty))) in
        let s : Run = found.1 in
        let there : Contains runs s = (found.0, found.2, found.3) in
        let same : s ≡ r = one_run spare r s r.first run (All-contains (IsMaximalRun spare) runs s spare_maximal.each there) (omega arith, omega (arith, run.not_empty)) found.4 in
        contains_filter (stays runs) runs r (or_left (leb 256 r.count) _ (le-leb 256 r.count enough)) (subst (λ (t : Run). Contains runs t) same there);
  }

pub plans_sound : PlansAreSound
plans_sound = λ used need plan enough is.
    let n : ℕ = need.system in
    let first : ℕ = lowest_long n (free_runs used) in
    let lowest : IsLowest used n first = lowest_is used n enough.run in
    let many : need.metadata + need.data_ ≤ length (others used first n) = omega (arith, others_count used first n lowest, enough.units) in
    record {
      system = subst (AreFreeUnits used n) (sym is.system) (system_free used first n lowest);
      metadata = subst (AreFreeUnits used need.metadata) (sym is.metadata) (part_free used first n 0 need.metadata (omega arith));
      data_ = subst (AreFreeUnits used need.data_) (sym is.data_) (part_free used first n need.metadata need.data_ many);
      system_metadata = rw (is.system, is.metadata) (system_apart used first n 0 need.metadata);
      system_data = rw (is.system, is.data_) (system_apart used first n need.metadata need.data_);
      metadata_data = rw (is.metadata, is.data_) (parts_apart (others used first n) need.metadata need.data_ (others_ascend used first n));
      unallocated = subst (AreLongRuns (is_spare used plan.system plan.metadata plan.data_)) (sym is.unallocated) (long_runs used plan.system plan.metadata plan.data_);
      few = λ few. subst (AreMaximalRuns (is_spare used plan.system plan.metadata plan.data_)) (sym is.unallocated) (few_runs used plan.system plan.metadata plan.data_ few);
    }
