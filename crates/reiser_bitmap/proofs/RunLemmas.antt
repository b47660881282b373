-- Maximal runs of numbers that pass a test, from the lowest on.
use Rattle.reiser_bitmap.proofs.Imports.{◌≡◌, ℕ, zero, suc, ◌+◌, ◌-◌, ◌<◌, ◌≤◌, ◌&&◌, ltb, Bool, true, false, not, List, [], ◌∷◌, ◌++◌, length, map, cond, refl, sym, ◌∙◌, ap, arith, ⊎_elim, filter, take_while, range_with_len, and_from, and_left, and_right, both_ways, not_from_true, not_from_false, lt-ltb, le-ltb, cases_lt, cases_eq, map-append, take_while-cons, filter-append, Run, begins_run, run_from, maximal_runs}
use Rattle.reiser_bitmap.proofs.Ranges.{range_cut, filter_range_none, filter_more_no}

-- where a run begins
pub begins_here : (p : ℕ → Bool) (u : ℕ) → p u ≡ true → ((k : ℕ) → k + 1 ≡ u → p k ≡ false) → begins_run p u ≡ true
begins_here p zero t before = rw t refl
begins_here p (suc u) t before =
    let gap : p (suc u - 1) ≡ false = before (suc u - 1) (omega arith) in
    and_from (p (suc u)) (not (ltb 0 (suc u) && p (suc u - 1))) t (not_from_false _ (and_right (ltb 0 (suc u)) (p (suc u - 1)) gap))

pub none_begins_off : (p : ℕ → Bool) (u : ℕ) → p u ≡ false → begins_run p u ≡ false
none_begins_off p u t = and_left (p u) _ t

pub none_begins_inside : (p : ℕ → Bool) (u k : ℕ) → k + 1 ≡ u → p k ≡ true → begins_run p u ≡ false
none_begins_inside p u k next t =
    let before : u - 1 ≡ k = omega arith in
    let positive : ltb 0 u ≡ true = lt-ltb 0 u (omega arith) in
    let inside : (ltb 0 u && p (u - 1)) ≡ true = and_from _ _ positive (ap p before ∙ t) in
    and_right (p u) _ (not_from_true _ inside)

-- how long a run is
pub run_ends : (p : ℕ → Bool) (a m c : ℕ) → c ≤ m → ((k : ℕ) → a ≤ k → k < a + c → p k ≡ true) → p (a + c) ≡ false → length (take_while p (range_with_len a m)) ≡ c
run_ends p a zero c few all stop = omega arith
run_ends p a (suc m) zero few all stop =
    let here : p a ≡ false = ap p (let e : a ≡ a + 0 = omega arith in e) ∙ stop in
    ap length (take_while-cons p a (range_with_len (a + 1) m)) ∙ rw here refl
run_ends p a (suc m) (suc c) few all stop =
    let here : p a ≡ true = all a (omega arith) (omega arith) in
    let further : p (a + 1 + c) ≡ false = ap p (let e : a + 1 + c ≡ a + suc c = omega arith in e) ∙ stop in
    let rest : length (take_while p (range_with_len (a + 1) m)) ≡ c = run_ends p (a + 1) m c (omega arith) (λ k low high. all k (omega arith) (omega arith)) further in
    ap length (take_while-cons p a (range_with_len (a + 1) m)) ∙ rw here (ap suc rest)

-- the runs that begin below a number
unfoldable pub runs_below : (ℕ → Bool) → ℕ → ℕ → List Run
runs_below p n first = map (run_from p n) (filter (begins_run p) (range_with_len 0 first))

pub runs_below-zero : (p : ℕ → Bool) (n : ℕ) → [] ≡ runs_below p n 0
unfolding runs_below
runs_below-zero p n = refl

-- a number that does not pass ends no run and begins none
pub runs_below_off : (p : ℕ → Bool) (n u : ℕ) → p u ≡ false → runs_below p n (u + 1) ≡ runs_below p n u
unfolding runs_below
runs_below_off p n u t = ap (map (run_from p n)) (filter_more_no (begins_run p) u (none_begins_off p u t))

-- a number that does not pass ends the run before it
pub runs_below_ended : (p : ℕ → Bool) (n first u : ℕ) → first < u → u ≤ n → ((k : ℕ) → k + 1 ≡ first → p k ≡ false) → ((k : ℕ) → first ≤ k → k < u → p k ≡ true) → p u ≡ false
    → runs_below p n (u + 1) ≡ runs_below p n first ++ record { first = first; count = u - first } ∷ []
unfolding runs_below
runs_below_ended p n first u some inside gap all stop =
    let begins : begins_run p first ≡ true = begins_here p first (all first (omega arith) some) gap in
    let none : filter (begins_run p) (range_with_len (first + 1) (u - first)) ≡ [] =
    filter_range_none (begins_run p) (first + 1) (u - first) (λ b low high. none_begins_inside p b (b - 1) (omega arith) (all (b - 1) (omega arith) (omega arith))) in
    let one : filter (begins_run p) (range_with_len first (suc (u - first))) ≡ first ∷ [] = rw (begins, none) refl in
    let starts : filter (begins_run p) (range_with_len 0 (u + 1)) ≡ filter (begins_run p) (range_with_len 0 first) ++ first ∷ [] =
    ap (filter (begins_run p)) (range_cut 0 first (suc (u - first)) (u + 1) first (omega arith) (omega arith))
    ∙ (filter-append (begins_run p) (range_with_len 0 first) (range_with_len first (suc (u - first)))
    ∙ ap (λ (xs : List ℕ). filter (begins_run p) (range_with_len 0 first) ++ xs) one) in
    let at : first + (u - first) ≡ u = omega arith in
    let long : length (take_while p (range_with_len first (n - first))) ≡ u - first =
    run_ends p first (n - first) (u - first) (omega arith) (λ k low high. all k low (omega arith)) (ap p at ∙ stop) in
    let run : run_from p n first ≡ record { first = first; count = u - first } = ap (λ (c : ℕ). let r : Run = record { first = first; count = c } in r) long in
    ap (map (run_from p n)) starts
    ∙ (map-append (run_from p n) (filter (begins_run p) (range_with_len 0 first)) (first ∷ [])
    ∙ ap (λ (r : Run). map (run_from p n) (filter (begins_run p) (range_with_len 0 first)) ++ r ∷ []) run)

-- all of them
pub runs_below_all : (p : ℕ → Bool) (n first : ℕ) → first ≡ n + 1 → p n ≡ false → runs_below p n first ≡ maximal_runs p n
unfolding runs_below maximal_runs
runs_below_all p n first end stop = ap (λ (m : ℕ). map (run_from p n) (filter (begins_run p) (range_with_len 0 m))) end ∙ ap (map (run_from p n)) (filter_more_no (begins_run p) n (none_begins_off p n stop))

-- After a look at the numbers below u: the runs that have ended are found, and those from first on pass.
pub record AreFound (p : ℕ → Bool) (n first u : ℕ) (runs : List Run) : Type 0 where
  pub found : runs ≡ runs_below p n first
  pub gap : (k : ℕ) → k + 1 ≡ first → p k ≡ false
  pub open_ : (k : ℕ) → first ≤ k → k < u → p k ≡ true
  pub within : first ≤ u

pub found_start : (p : ℕ → Bool) (n : ℕ) (runs : List Run) → runs ≡ [] → AreFound p n 0 0 runs
found_start p n runs none = record {
  found = none ∙ runs_below-zero p n;
  gap = λ k e. absurd (omega arith);
  open_ = λ k low high. absurd (omega arith);
  within = omega arith;
}

pub found_more : (p : ℕ → Bool) (n first u : ℕ) (runs : List Run) → AreFound p n first u runs → p u ≡ true → AreFound p n first (u + 1) runs
found_more p n first u runs so_far t = record {
  found = so_far.found;
  gap = so_far.gap;
  open_ = λ k low high. ⊎_elim (λ (same : k ≡ u). ap p same ∙ t) (λ (other : k ≡ u → ⊥). so_far.open_ k low (omega arith)) (cases_eq k u);
  within = omega (arith, so_far.within);
}

pub found_ended : (p : ℕ → Bool) (n first u : ℕ) (runs added : List Run) → AreFound p n first u runs → u ≤ n → p u ≡ false
    → added ≡ cond (ltb first u) (runs ++ record { first = first; count = u - first } ∷ []) runs → AreFound p n (u + 1) (u + 1) added
found_ended p n first u runs added so_far inside t is = record {
  found =
      is ∙ ⊎_elim
      (λ (some : first < u). ap (λ (b : Bool). cond b (runs ++ record { first = first; count = u - first } ∷ []) runs) (lt-ltb first u some)
      ∙ (ap (λ (rs : List Run). rs ++ record { first = first; count = u - first } ∷ []) so_far.found
      ∙ sym (runs_below_ended p n first u some inside so_far.gap so_far.open_ t)))
      (λ (none : u ≤ first). let same : first ≡ u = omega (arith, so_far.within) in
      ap (λ (b : Bool). cond b (runs ++ record { first = first; count = u - first } ∷ []) runs) (le-ltb first u none)
      ∙ (so_far.found ∙ (ap (runs_below p n) same ∙ sym (runs_below_off p n u t))))
      (cases_lt first u);
  gap = λ k e. ap p (let same : k ≡ u = omega arith in same) ∙ t;
  open_ = λ k low high. absurd (omega arith);
  within = omega arith;
}

pub found_all : (p : ℕ → Bool) (n first u : ℕ) (runs : List Run) → AreFound p n first u runs → u ≡ n + 1 → p n ≡ false → runs ≡ maximal_runs p n
found_all p n first u runs so_far end stop =
    let all : first ≡ n + 1 =
    ⊎_elim (λ (early : first < n + 1). absurd (both_ways (p n) stop (so_far.open_ n (omega arith) (omega arith)))) (λ (late : n + 1 ≤ first). let e : first ≡ n + 1 = omega (arith, so_far.within) in e) (cases_lt first (n + 1)) in
    so_far.found ∙ runs_below_all p n first all stop
