-- Where the units of a plan lie.
use Rattle.unit_plan.proofs.Imports.{◌≡◌, ℕ, ◌+◌, ◌-◌, ◌<◌, ◌≤◌, Bool, true, false, List, [], ◌∷◌, take, drop, get_or, cond, refl, sym, ◌∙◌, ap, subst, arith, ⊎_elim, All, Contains, fold, filter, range_with_len, cases_Bool, cases_lt, leb-true, leb-false, both_ways, get_or-take, get_or-drop, length-take, length-drop, length-range_with_len, get_or-range_with_len, Contains-get_or, All-contains, Run, IsMaximalRun, AreMaximalRuns, free_runs, is_free_unit, unit_count, past_units, runs_are_maximal, filter_contains, range_contains, longest_run, is_long, lowest_long, is_other, others, usable_units}
use Rattle.std.proofs.Common.{max}

abbrev none : Run
none = record { first = 0; count = 0 }

abbrev longest_of : ℕ → List Run → ℕ
longest_of most runs = fold (λ most run. max most run.count) most runs

-- where no run is long, the longest is not
all_short : (n most : ℕ) (runs : List Run) → filter (is_long n) runs ≡ [] → most < n → longest_of most runs < n
all_short n most [] short below = below
all_short n most (r ∷ rs) short below =
    ⊎_elim
    (λ (long : is_long n r ≡ true). absurd (let clash : r ∷ filter (is_long n) rs ≡ [] = sym (ap (λ b. cond b (r ∷ filter (is_long n) rs) (filter (is_long n) rs)) long) ∙ short in cc))
    (λ (not_long : is_long n r ≡ false).
    let rest : filter (is_long n) rs ≡ [] = sym (ap (λ b. cond b (r ∷ filter (is_long n) rs) (filter (is_long n) rs)) not_long) ∙ short in
    let small : r.count < n = leb-false n r.count not_long in
    all_short n (max most r.count) rs rest (omega (arith, small, below)))
    (cases_Bool (is_long n r))

free_maximal : (used : List Bool) → AreMaximalRuns (is_free_unit used) (free_runs used)
unfolding free_runs
free_maximal used = runs_are_maximal (is_free_unit used) (unit_count used) (past_units used)

-- a run of free units lies in the volume
run_inside : (used : List Bool) (r : Run) → IsMaximalRun (is_free_unit used) r → r.first + r.count ≤ unit_count used
run_inside used r run =
    let last : ℕ = r.first + (r.count - 1) in
    let free : is_free_unit used last ≡ true = run.all last (omega arith, omega (arith, run.not_empty)) in
    ⊎_elim (λ (inside : last < unit_count used). omega (arith, run.not_empty)) (λ (past : unit_count used ≤ last). absurd (both_ways (is_free_unit used last) (past_units used last past) free))
    (cases_lt last (unit_count used))

-- the units for the chunk tree are free
pub record IsLowest (used : List Bool) (n : ℕ) (first : ℕ) : Type 0 where
  pub inside : first + n ≤ unit_count used
  pub free : (u : ℕ) → first ≤ u → u < first + n → is_free_unit used u ≡ true

pub lowest_is : (used : List Bool) (n : ℕ) → n ≤ longest_run used → IsLowest used n (lowest_long n (free_runs used))
unfolding lowest_long longest_run
lowest_is used n enough = by_length (filter (is_long n) (free_runs used)) refl
  where
    by_length : (found : List Run) → filter (is_long n) (free_runs used) ≡ found → IsLowest used n (get_or (filter (is_long n) (free_runs used)) 0 none).first
    by_length [] is =
        ⊎_elim
        (λ (some : 0 < n). absurd (omega (arith, all_short n 0 (free_runs used) is some, enough)))
        (λ (zeroth : n ≤ 0).
        subst (λ (f : ℕ). IsLowest used n f) (sym (ap (λ rs. (get_or rs 0 none).first) is)) (record { inside = omega arith; free = λ u low high. absurd (omega arith) }))
        (cases_lt 0 n)
    by_length (r ∷ rs) is =
        let there : Contains (filter (is_long n) (free_runs used)) r = subst (λ (found : List Run). Contains found r) (sym is) (0, omega arith, refl) in
        let kept = filter_contains (is_long n) (free_runs used) r there in
        let run : IsMaximalRun (is_free_unit used) r = All-contains (IsMaximalRun (is_free_unit used)) (free_runs used) r (free_maximal used).each kept.0 in
        let long : n ≤ r.count = leb-true n r.count kept.1 in
        subst (λ (f : ℕ). IsLowest used n f) (sym (ap (λ found. (get_or found 0 none).first) is))
        (record { inside = omega (arith, run_inside used r run); free = λ u low high. run.all u (low, omega (arith, high, long)) })

-- the elements of a part are those of the whole
pub part_of : (skip wanted : ℕ) (xs : List ℕ) (x : ℕ) → Contains (take wanted (drop skip xs)) x → Contains xs x
part_of skip wanted xs x h =
    let k : ℕ = h.0 in
    let few : k < wanted = omega (arith, h.1, length-take wanted (drop skip xs)) in
    (skip + k, omega (arith, h.1, length-take wanted (drop skip xs), length-drop skip xs), sym (get_or-drop skip xs k x) ∙ (sym (get_or-take wanted (drop skip xs) k x few) ∙ h.2))

-- another free unit
pub record IsOther (used : List Bool) (first n u : ℕ) : Type 0 where
  pub inside : u < unit_count used
  pub passes : is_other used first n u ≡ true

pub other_is : (used : List Bool) (first n u : ℕ) → Contains (others used first n) u → IsOther used first n u
unfolding others
other_is used first n u h =
    let kept = filter_contains (is_other used first n) (range_with_len 0 (unit_count used)) u h in
    record { inside = omega (arith, (range_contains 0 (unit_count used) u kept.0).1); passes = kept.1 }

units_reach : (used : List Bool) → unit_count used ≤ usable_units used
units_reach used = omega arith

pub range_below : (first n m : ℕ) → first + n ≤ m → All (λ u. u < m) (range_with_len first n)
range_below first n m inside = λ k d h.
    let few : k < n = omega (arith, h, length-range_with_len first n) in omega (arith, get_or-range_with_len first n k d few)

pub others_below : (used : List Bool) (first n skip wanted : ℕ) → All (λ u. u < usable_units used) (take wanted (drop skip (others used first n)))
others_below used first n skip wanted = λ k d h.
    let units : List ℕ = take wanted (drop skip (others used first n)) in
    let there : Contains units (get_or units k d) = Contains-get_or units k d h in
    omega (arith, (other_is used first n (get_or units k d) (part_of skip wanted (others used first n) (get_or units k d) there)).inside, units_reach used)
