-- The runs that are listed are the maximal ones.
use Rattle.reiser_bitmap.proofs.Imports.{◌≡◌, ℕ, zero, suc, ◌+◌, ◌-◌, ◌<◌, ◌≤◌, ◌&&◌, ltb, Bool, true, false, List, ◌∷◌, length, map, cond, get_or, refl, sym, ◌∙◌, ap, arith, subst, ⊎_elim, filter, take_while, Any, range_with_len, and_parts, both_ways, not-true, and_cases, lt-ltb, cases_Bool, cases_lt, cases_eq, get_or-map, length-map, take_while-cons, Contains-get_or, Run, IsInRun, IsMaximalRun, AreMaximalRuns, begins_run, run_from, maximal_runs}
use Rattle.reiser_bitmap.proofs.Ranges.{contains_range, range_contains, contains_filter, filter_contains}
use Rattle.reiser_bitmap.proofs.RunLemmas.{begins_here}

-- the front of a range that passes: its numbers pass, and where it ends before the range the next one does not
pub record IsFront (p : ℕ → Bool) (a m c : ℕ) : Type 0 where
  pub few : c ≤ m
  pub all : (k : ℕ) → a ≤ k → k < a + c → p k ≡ true
  pub stop : c < m → p (a + c) ≡ false

pub front : (p : ℕ → Bool) (a m : ℕ) → IsFront p a m (length (take_while p (range_with_len a m)))
front p a zero = record { few = omega arith; all = λ k low high. absurd (omega arith); stop = λ h. absurd (omega arith) }
front p a (suc m) =
    let rest : ℕ = length (take_while p (range_with_len (a + 1) m)) in
    let more : IsFront p (a + 1) m rest = front p (a + 1) m in
    ⊎_elim
    (λ (t : p a ≡ true).
    let size : suc rest ≡ length (take_while p (range_with_len a (suc m))) = sym (ap length (take_while-cons p a (range_with_len (a + 1) m)) ∙ rw t refl) in
    subst (IsFront p a (suc m)) size (record {
      few = omega (arith, more.few);
      all = λ k low high. ⊎_elim (λ (same : k ≡ a). ap p same ∙ t) (λ (other : k ≡ a → ⊥). more.all k (omega arith) (omega arith)) (cases_eq k a);
      stop = λ h. ap p (let e : a + suc rest ≡ a + 1 + rest = omega arith in e) ∙ more.stop (omega arith);
    }))
    (λ (t : p a ≡ false).
    let size : 0 ≡ length (take_while p (range_with_len a (suc m))) = sym (ap length (take_while-cons p a (range_with_len (a + 1) m)) ∙ rw t refl) in
    subst (IsFront p a (suc m)) size (record {
      few = omega arith;
      all = λ k low high. absurd (omega arith);
      stop = λ h. ap p (let e : a + 0 ≡ a = omega arith in e) ∙ t;
    }))
    (cases_Bool (p a))

-- what begins a run passes, and the number before it does not
begins_passes : (p : ℕ → Bool) (u : ℕ) → begins_run p u ≡ true → p u ≡ true
begins_passes p u t = (and_parts _ _ t).0

gap_before : (p : ℕ → Bool) (u k : ℕ) → begins_run p u ≡ true → k + 1 ≡ u → p k ≡ false
gap_before p u k t next =
    let off : (ltb 0 u && p (u - 1)) ≡ false = not-true _ (and_parts (p u) _ t).1 in
    ⊎_elim (λ (zeroth : ltb 0 u ≡ false). absurd (both_ways (ltb 0 u) zeroth (lt-ltb 0 u (omega arith))))
    (λ (gap : p (u - 1) ≡ false). ap p (let e : k ≡ u - 1 = omega arith in e) ∙ gap)
    (and_cases (ltb 0 u) (p (u - 1)) off)

-- a run is maximal
run_is_maximal : (p : ℕ → Bool) (n u : ℕ) → p n ≡ false → u < n → begins_run p u ≡ true → IsMaximalRun p (run_from p n u)
run_is_maximal p n u end inside t =
    let count : ℕ = length (take_while p (range_with_len u (n - u))) in
    let all : IsFront p u (n - u) count = front p u (n - u) in
    let behind : p (u + count) ≡ false =
    ⊎_elim (λ (early : count < n - u). all.stop early) (λ (late : n - u ≤ count). ap p (let e : u + count ≡ n = omega (arith, all.few) in e) ∙ end) (cases_lt count (n - u)) in
    record {
      not_empty = ⊎_elim (λ (some : 0 < count). some) (λ (none : count ≤ 0). absurd (both_ways (p u) (ap p (let e : u ≡ u + count = omega arith in e) ∙ behind) (begins_passes p u t))) (cases_lt 0 count);
      all = λ k within. all.all k within.0 within.1;
      before = λ k next. gap_before p u k t next;
      behind = behind;
    }

-- what a filter keeps of a range ascends
pub starts_ascend : (p : ℕ → Bool) (a m i j d : ℕ) → i < j → j < length (filter p (range_with_len a m)) → get_or (filter p (range_with_len a m)) i d < get_or (filter p (range_with_len a m)) j d
starts_ascend p a zero i j d below inside = absurd (omega arith)
starts_ascend p a (suc m) i j d below inside =
    let rest : List ℕ = filter p (range_with_len (a + 1) m) in
    (elim (p a) as (λ b. j < length (cond b (a ∷ rest) rest) → get_or (cond b (a ∷ rest) rest) i d < get_or (cond b (a ∷ rest) rest) j d) [
      | true ↦ λ within. here a rest i j d below within
          (λ k l. let kept = filter_contains p (range_with_len (a + 1) m) (get_or rest k d) (Contains-get_or rest k d l) in
          let place = range_contains (a + 1) m (get_or rest k d) kept.0 in omega (arith, place.0))
          (λ k l lower within'. starts_ascend p (a + 1) m k l d lower within')
      | false ↦ λ within. starts_ascend p (a + 1) m i j d below within
    ]) inside
  where
    here : (a : ℕ) (rest : List ℕ) (i j d : ℕ) → i < j → j < length (a ∷ rest) → ((k : ℕ) → k < length rest → a < get_or rest k d)
        → ((k l : ℕ) → k < l → l < length rest → get_or rest k d < get_or rest l d) → get_or (a ∷ rest) i d < get_or (a ∷ rest) j d
    here a rest i zero d below inside above ascend = absurd (omega arith)
    here a rest zero (suc j) d below inside above ascend = above j (omega arith)
    here a rest (suc i) (suc j) d below inside above ascend = ascend i j (omega arith) (omega arith)

-- a run ends before the next one begins
run_ends_before : (p : ℕ → Bool) (n a b : ℕ) → a < b → begins_run p b ≡ true → a + length (take_while p (range_with_len a (n - a))) < b
run_ends_before p n a b below t =
    let count : ℕ = length (take_while p (range_with_len a (n - a))) in
    let all : IsFront p a (n - a) count = front p a (n - a) in
    let gap : p (b - 1) ≡ false = gap_before p b (b - 1) t (omega arith) in
    ⊎_elim (λ (apart : a + count < b). apart) (λ (reaches : b ≤ a + count). absurd (both_ways (p (b - 1)) gap (all.all (b - 1) (omega arith) (omega arith)))) (cases_lt (a + count) b)

-- a number that passes lies in a run that begins at or before it
record HasStart (p : ℕ → Bool) (u start : ℕ) : Type 0 where
  below : start ≤ u
  begins : begins_run p start ≡ true
  all : (k : ℕ) → start ≤ k → k ≤ u → p k ≡ true

start_here : (p : ℕ → Bool) (u : ℕ) → p u ≡ true → ((k : ℕ) → k + 1 ≡ u → p k ≡ false) → HasStart p u u
start_here p u t gap = record {
  below = omega arith;
  begins = begins_here p u t gap;
  all = λ k low high. ap p (let e : k ≡ u = omega arith in e) ∙ t;
}

find_start : (p : ℕ → Bool) (u : ℕ) → p u ≡ true → (start : ℕ) × HasStart p u start
find_start p zero t = (zero, start_here p zero t (λ k next. absurd (omega arith)))
find_start p (suc u) t =
    ⊎_elim
    (λ (before : p u ≡ true). let lower = find_start p u before in (
      lower.0,
      record {
        below = omega (arith, lower.1.below);
        begins = lower.1.begins;
        all = λ k low high. ⊎_elim (λ (same : k ≡ suc u). ap p same ∙ t) (λ (other : k ≡ suc u → ⊥). lower.1.all k low (omega arith)) (cases_eq k (suc u));
      },
    ))
    (λ (gap : p u ≡ false). (suc u, start_here p (suc u) t (λ k next. ap p (let e : k ≡ u = omega arith in e) ∙ gap)))
    (cases_Bool (p u))

pub mapped : {X Y : Type 0} (f : X → Y) (P : Y → Type 0) (xs : List X) (k : ℕ) (x : X) → k < length xs → get_or xs k x ≡ x → P (f x) → Any P (map f xs)
mapped f P xs k x h is holds = (k, f x, omega (arith, length-map xs f), get_or-map f xs k x (f x) h ∙ ap f is, holds)

pub runs_are_maximal : (p : ℕ → Bool) (n : ℕ) → ((u : ℕ) → n ≤ u → p u ≡ false) → AreMaximalRuns p (maximal_runs p n)
unfolding maximal_runs
runs_are_maximal p n end =
    let starts : List ℕ = filter (begins_run p) (range_with_len 0 n) in
    let begins : (k : ℕ) → k < length starts → (get_or starts k 0 < n) × (begins_run p (get_or starts k 0) ≡ true) = λ k h.
    let kept = filter_contains (begins_run p) (range_with_len 0 n) (get_or starts k 0) (Contains-get_or starts k 0 h) in (omega (arith, (range_contains 0 n (get_or starts k 0) kept.0).1), kept.1) in
    record {
      each = λ k d h.
          let inside : k < length starts = omega (arith, length-map starts (run_from p n)) in
          subst (IsMaximalRun p) (sym (get_or-map (run_from p n) starts k 0 d inside)) (run_is_maximal p n (get_or starts k 0) (end n (omega arith)) (begins k inside).0 (begins k inside).1);
      ascending = λ i j d below h.
          let last : j < length starts = omega (arith, length-map starts (run_from p n)) in
          let first : i < length starts = omega arith in
          let apart = run_ends_before p n (get_or starts i 0) (get_or starts j 0) (starts_ascend (begins_run p) 0 n i j 0 below last) (begins j last).1 in
          subst (λ (r : Run). r.first + r.count < (get_or (map (run_from p n) starts) j d).first) (sym (get_or-map (run_from p n) starts i 0 d first))
          (subst (λ (s : Run). (run_from p n (get_or starts i 0)).first + (run_from p n (get_or starts i 0)).count < s.first) (sym (get_or-map (run_from p n) starts j 0 d last)) apart);
      whole = λ u t.
          let found = find_start p u t in
          let start : ℕ = found.0 in
          let passes : p start ≡ true = found.1.all start (omega arith) found.1.below in
          let inside : start < n = ⊎_elim (λ (h : start < n). h) (λ (h : n ≤ start). absurd (both_ways (p start) (end start h) passes)) (cases_lt start n) in
          let count : ℕ = length (take_while p (range_with_len start (n - start))) in
          let all : IsFront p start (n - start) count = front p start (n - start) in
          let reaches : u < start + count =
          ⊎_elim (λ (h : u < start + count). h)
          (λ (h : start + count ≤ u).
          let stops : p (start + count) ≡ false = ⊎_elim (λ (early : count < n - start). all.stop early) (λ (late : n - start ≤ count). end (start + count) (omega (arith, all.few))) (cases_lt count (n - start)) in
          absurd (both_ways (p (start + count)) stops (found.1.all (start + count) (omega arith) h)))
          (cases_lt u (start + count)) in
          let place = contains_filter (begins_run p) (range_with_len 0 n) start found.1.begins (contains_range 0 n start (omega arith) (omega (arith, inside))) in
          mapped (run_from p n) (λ r. IsInRun r u) starts place.0 start place.1 place.2 (found.1.below, reaches);
    }
