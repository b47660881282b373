-- No plan has more chunks than the bound.
use Rattle.unit_plan.proofs.Imports.{◌≡◌, ℕ, ◌+◌, ◌-◌, ◌*◌, ◌%◌, ◌^◌, ◌<◌, ◌≤◌, ◌&&◌, ◌||◌, ltb, leb, eqb, not, Bool, true, false, List, length, take, drop, get_or, refl, sym, ◌∙◌, ap, subst, arith, ⊎_elim, Contains, filter, range_with_len, div_ceil, cases_Bool, cases_lt, cases_eq, and_parts, and_from, and_left, or_cases, or_left, or_right, not-true, not_from_false, both_ways, eq-eqb, lt-ltb, le-leb, ltb-true, leb-true, length-map, is_free_unit, unit_count, begins_run, run_from, maximal_runs, free_runs, past_units, range_contains, contains_range, holds_data, is_among, is_in, is_other, others, usable_units}
use Rattle.unit_plan.proofs.Enough.{IsLowest, part_of, IsOther, other_is}
use Rattle.unit_plan.proofs.Sound.{others_ascend}
use Rattle.unit_plan.proofs.Starts.{among_contains, contains_among, rank, ranked, rank_next, in_part, part_rank, free_no_data, data_there, odd_unit}
use Rattle.unit_plan.proofs.Tallies.{tally, tally-is, tally_either, tally_one, tally_multiples, tally_from_one, tally_within, tally-zero, ends_run, tally_ends}

-- the tests of a plan's lists
abbrev pub role : List Bool → List ℕ → List ℕ → List ℕ → ℕ → Bool
role used sys meta dat u = is_among sys u || (is_among meta u || (is_among dat u || holds_data used u))

abbrev pub one_role : List Bool → List ℕ → List ℕ → List ℕ → ℕ → ℕ → Bool
one_role used sys meta dat u v =
    (is_among sys u && is_among sys v) || ((is_among meta u && is_among meta v) || ((is_among dat u || holds_data used u) && (is_among dat v || holds_data used v)))

abbrev pub begins : List Bool → List ℕ → List ℕ → List ℕ → ℕ → Bool
begins used sys meta dat u = role used sys meta dat u && (eqb (u % 1024) 0 || not (one_role used sys meta dat (u - 1) u))

-- why a chunk may begin: a multiple of 1024, a run of free units or the end of one, and some single units
abbrev pub others_of : (first n next u : ℕ) → Bool
others_of first n next u = eqb u 1 || (eqb u 65 || (eqb u 262145 || (eqb u first || (eqb u (first + n) || eqb u next))))

abbrev pub reason : List Bool → ℕ → ℕ → ℕ → ℕ → Bool
reason used first n next u = eqb (u % 1024) 0 || (begins_run (is_free_unit used) u || (ends_run (is_free_unit used) u || others_of first n next u))

pub single : (used : List Bool) (first n next u : ℕ) → others_of first n next u ≡ true → reason used first n next u ≡ true
single used first n next u t = or_right (eqb (u % 1024) 0) _ (or_right (begins_run (is_free_unit used) u) _ (or_right (ends_run (is_free_unit used) u) _ t))

pub is_1 : (first n next u : ℕ) → u ≡ 1 → others_of first n next u ≡ true
is_1 first n next u e = or_left (eqb u 1) _ (eq-eqb u 1 e)

is_65 : (first n next u : ℕ) → u ≡ 65 → others_of first n next u ≡ true
is_65 first n next u e = or_right (eqb u 1) _ (or_left (eqb u 65) _ (eq-eqb u 65 e))

is_262145 : (first n next u : ℕ) → u ≡ 262145 → others_of first n next u ≡ true
is_262145 first n next u e = or_right (eqb u 1) _ (or_right (eqb u 65) _ (or_left (eqb u 262145) _ (eq-eqb u 262145 e)))

is_first : (first n next u : ℕ) → u ≡ first → others_of first n next u ≡ true
is_first first n next u e = or_right (eqb u 1) _ (or_right (eqb u 65) _ (or_right (eqb u 262145) _ (or_left (eqb u first) _ (eq-eqb u first e))))

is_end : (first n next u : ℕ) → u ≡ first + n → others_of first n next u ≡ true
is_end first n next u e =
    or_right (eqb u 1) _ (or_right (eqb u 65) _ (or_right (eqb u 262145) _ (or_right (eqb u first) _ (or_left (eqb u (first + n)) _ (eq-eqb u (first + n) e)))))

is_next : (first n next u : ℕ) → u ≡ next → others_of first n next u ≡ true
is_next first n next u e =
    or_right (eqb u 1) _ (or_right (eqb u 65) _ (or_right (eqb u 262145) _ (or_right (eqb u first) _ (or_right (eqb u (first + n)) _ (eq-eqb u next e)))))

-- a part of the other units
module _ (used : List Bool) (first n : ℕ) where
  abbrev p : ℕ → Bool
  p = is_other used first n

  other_free : (s w u : ℕ) → Contains (take w (drop s (others used first n))) u → IsOther used first n u
  other_free s w u h = other_is used first n u (part_of s w (others used first n) u h)

  rank_in : (s w u : ℕ) → Contains (take w (drop s (others used first n))) u → (s ≤ rank p u) × (rank p u < s + w)
  unfolding others
  rank_in s w u h = let other = other_free s w u h in part_rank p (unit_count used) s w u (others_ascend used first n) other.inside other.passes h

  put_in : (s w u : ℕ) → u < unit_count used → p u ≡ true → s ≤ rank p u → rank p u < s + w → Contains (take w (drop s (others used first n))) u
  unfolding others
  put_in s w u inside t low high = in_part p (unit_count used) s w u inside t low high

  rank_at : (u : ℕ) → u < unit_count used → p u ≡ true → get_or (others used first n) (rank p u) 0 ≡ u
  unfolding others
  rank_at u inside t = (ranked p (unit_count used) u inside t).at 0

  -- the unit before another free one is taken for the chunk tree, or another one too
  before : (v : ℕ) → is_free_unit used v ≡ true → is_in first n v ≡ false → p v ≡ true
  before v free off = and_from (is_free_unit used v) (not (is_in first n v)) free (not_from_false (is_in first n v) off)

  behind_system : (v : ℕ) → is_in first n v ≡ true → is_in first n (v + 1) ≡ false → v + 1 ≡ first + n
  behind_system v on off =
      let parts = and_parts (leb first v) (ltb v (first + n)) on in
      let low : first ≤ v = leb-true first v parts.0 in
      let high : v < first + n = ltb-true v (first + n) parts.1 in
      ⊎_elim (λ (inside : v + 1 < first + n). absurd (both_ways (is_in first n (v + 1)) off (and_from (leb first (v + 1)) (ltb (v + 1) (first + n)) (le-leb first (v + 1) (omega arith)) (lt-ltb (v + 1) (first + n) inside))))
      (λ (end : first + n ≤ v + 1). let e : v + 1 ≡ first + n = omega arith in e)
      (cases_lt (v + 1) (first + n))

module _ (used : List Bool) (first n m r : ℕ) (lowest : IsLowest used n first) (sys meta dat : List ℕ) (sys_is : sys ≡ range_with_len first n) (meta_is : meta ≡ take m (others used first n))
    (dat_is : dat ≡ take r (drop m (others used first n))) where
  abbrev pub next : ℕ
  next = get_or (others used first n) m 0

  in_sys : (u : ℕ) → is_among sys u ≡ true → (first ≤ u) × (u < first + n)
  in_sys u t = range_contains first n u (subst (λ xs. Contains xs u) sys_is (among_contains sys u t))

  to_sys : (u : ℕ) → first ≤ u → u < first + n → is_among sys u ≡ true
  to_sys u low high = contains_among sys u (subst (λ xs. Contains xs u) (sym sys_is) (contains_range first n u low high))

  in_meta : (u : ℕ) → is_among meta u ≡ true → Contains (take m (drop 0 (others used first n))) u
  in_meta u t = subst (λ xs. Contains xs u) meta_is (among_contains meta u t)

  to_meta : (u : ℕ) → Contains (take m (drop 0 (others used first n))) u → is_among meta u ≡ true
  to_meta u h = contains_among meta u (subst (λ xs. Contains xs u) (sym meta_is) h)

  in_dat : (u : ℕ) → is_among dat u ≡ true → Contains (take r (drop m (others used first n))) u
  in_dat u t = subst (λ xs. Contains xs u) dat_is (among_contains dat u t)

  to_dat : (u : ℕ) → Contains (take r (drop m (others used first n))) u → is_among dat u ≡ true
  to_dat u h = contains_among dat u (subst (λ xs. Contains xs u) (sym dat_is) h)

  free_of : (u : ℕ) → IsOther used first n u → is_free_unit used u ≡ true
  free_of u other = (and_parts (is_free_unit used u) (not (is_in first n u)) other.passes).0

  out_of : (u : ℕ) → IsOther used first n u → is_in first n u ≡ false
  out_of u other = not-true (is_in first n u) (and_parts (is_free_unit used u) (not (is_in first n u)) other.passes).1

  -- a chosen unit behind a free one that has not its role
  inside_run : (v : ℕ) → v + 1 < unit_count used → is_free_unit used (v + 1) ≡ true → is_free_unit used v ≡ true → role used sys meta dat (v + 1) ≡ true → one_role used sys meta dat v (v + 1) ≡ false
      → others_of first n next (v + 1) ≡ true
  inside_run v inside free free' t apart =
      ⊎_elim
      (λ (system : is_among sys (v + 1) ≡ true).
      let range = in_sys (v + 1) system in
      ⊎_elim (λ (same : v + 1 ≡ first). is_first first n next (v + 1) same)
      (λ (later : v + 1 ≡ first → ⊥).
      absurd (both_ways (one_role used sys meta dat v (v + 1)) apart (or_left (is_among sys v && is_among sys (v + 1)) _ (and_from (is_among sys v) (is_among sys (v + 1)) (to_sys v (omega (arith, range.0, later)) (omega (arith, range.1))) system))))
      (cases_eq (v + 1) first))
      (λ rest. ⊎_elim
      (λ (metadata : is_among meta (v + 1) ≡ true).
      let there = in_meta (v + 1) metadata in
      let other = other_free used first n 0 m (v + 1) there in
      ⊎_elim
      (λ (taken : is_in first n v ≡ true). is_end first n next (v + 1) (behind_system used first n v taken (out_of (v + 1) other)))
      (λ (out : is_in first n v ≡ false).
      let passes = before used first n v free' out in
      let high = rank_in used first n 0 m (v + 1) there in
      let lower : Contains (take m (drop 0 (others used first n))) v = put_in used first n 0 m v (omega arith) passes (omega arith) (omega (arith, high.1, rank_next (is_other used first n) v passes)) in
      absurd (both_ways (one_role used sys meta dat v (v + 1)) apart
      (or_right (is_among sys v && is_among sys (v + 1)) _ (or_left (is_among meta v && is_among meta (v + 1)) _ (and_from (is_among meta v) (is_among meta (v + 1)) (to_meta v lower) metadata)))))
      (cases_Bool (is_in first n v)))
      (λ rest'. ⊎_elim
      (λ (data_ : is_among dat (v + 1) ≡ true).
      let there = in_dat (v + 1) data_ in
      let other = other_free used first n m r (v + 1) there in
      ⊎_elim
      (λ (taken : is_in first n v ≡ true). is_end first n next (v + 1) (behind_system used first n v taken (out_of (v + 1) other)))
      (λ (out : is_in first n v ≡ false).
      let passes = before used first n v free' out in
      let place = rank_in used first n m r (v + 1) there in
      let follows : rank (is_other used first n) (v + 1) ≡ rank (is_other used first n) v + 1 = rank_next (is_other used first n) v passes in
      ⊎_elim
      (λ (lower : rank (is_other used first n) v < m).
      let at : rank (is_other used first n) (v + 1) ≡ m = omega (arith, place.0, follows) in
      is_next first n next (v + 1) (sym (sym (ap (λ (k : ℕ). get_or (others used first n) k 0) at) ∙ rank_at used first n (v + 1) other.inside other.passes)))
      (λ (data' : m ≤ rank (is_other used first n) v).
      let lower : Contains (take r (drop m (others used first n))) v = put_in used first n m r v (omega arith) passes data' (omega (arith, place.1, follows)) in
      absurd (both_ways (one_role used sys meta dat v (v + 1)) apart
      (or_right (is_among sys v && is_among sys (v + 1)) _ (or_right (is_among meta v && is_among meta (v + 1)) _
      (and_from (is_among dat v || holds_data used v) (is_among dat (v + 1) || holds_data used (v + 1)) (or_left (is_among dat v) _ (to_dat v lower)) (or_left (is_among dat (v + 1)) _ data_))))))
      (cases_lt (rank (is_other used first n) v) m))
      (cases_Bool (is_in first n v)))
      (λ (holds : holds_data used (v + 1) ≡ true). absurd (both_ways (holds_data used (v + 1)) (free_no_data used (v + 1) free) holds))
      (or_cases (is_among dat (v + 1)) (holds_data used (v + 1)) rest'))
      (or_cases (is_among meta (v + 1)) (is_among dat (v + 1) || holds_data used (v + 1)) rest))
      (or_cases (is_among sys (v + 1)) (is_among meta (v + 1) || (is_among dat (v + 1) || holds_data used (v + 1))) t)

  -- a unit that is not free holds data where it has a role
  holds_there : (u : ℕ) → is_free_unit used u ≡ false → role used sys meta dat u ≡ true → holds_data used u ≡ true
  holds_there u taken t =
      ⊎_elim (λ (system : is_among sys u ≡ true). let range = in_sys u system in absurd (both_ways (is_free_unit used u) taken (lowest.free u range.0 range.1)))
      (λ rest. ⊎_elim (λ (metadata : is_among meta u ≡ true). absurd (both_ways (is_free_unit used u) taken (free_of u (other_free used first n 0 m u (in_meta u metadata)))))
      (λ rest'. ⊎_elim (λ (data_ : is_among dat u ≡ true). absurd (both_ways (is_free_unit used u) taken (free_of u (other_free used first n m r u (in_dat u data_)))))
      (λ holds. holds)
      (or_cases (is_among dat u) (holds_data used u) rest'))
      (or_cases (is_among meta u) (is_among dat u || holds_data used u) rest))
      (or_cases (is_among sys u) (is_among meta u || (is_among dat u || holds_data used u)) t)

  pub why : (v : ℕ) → begins used sys meta dat (v + 1) ≡ true → reason used first n next (v + 1) ≡ true
  why v t =
      let parts = and_parts (role used sys meta dat (v + 1)) (eqb ((v + 1) % 1024) 0 || not (one_role used sys meta dat (v + 1 - 1) (v + 1))) t in
      let back : v + 1 - 1 ≡ v = omega arith in
      ⊎_elim (λ (cut : eqb ((v + 1) % 1024) 0 ≡ true). or_left (eqb ((v + 1) % 1024) 0) _ cut)
      (λ (changes : not (one_role used sys meta dat (v + 1 - 1) (v + 1)) ≡ true).
      let apart : one_role used sys meta dat v (v + 1) ≡ false = sym (ap (λ (w : ℕ). one_role used sys meta dat w (v + 1)) back) ∙ not-true (one_role used sys meta dat (v + 1 - 1) (v + 1)) changes in
      ⊎_elim
      (λ (free : is_free_unit used (v + 1) ≡ true).
      ⊎_elim
      (λ (free' : is_free_unit used v ≡ true).
      let inside : v + 1 < unit_count used = ⊎_elim (λ (h : v + 1 < unit_count used). h) (λ (past : unit_count used ≤ v + 1). absurd (both_ways (is_free_unit used (v + 1)) (past_units used (v + 1) past) free)) (cases_lt (v + 1) (unit_count used)) in
      single used first n next (v + 1) (inside_run v inside free free' parts.0 apart))
      (λ (taken' : is_free_unit used v ≡ false).
      let gap : is_free_unit used (v + 1 - 1) ≡ false = ap (is_free_unit used) back ∙ taken' in
      or_right (eqb ((v + 1) % 1024) 0) _ (or_left (begins_run (is_free_unit used) (v + 1)) _
      (and_from (is_free_unit used (v + 1)) (not (ltb 0 (v + 1) && is_free_unit used (v + 1 - 1))) free (not_from_false _ (and_off (ltb 0 (v + 1)) (is_free_unit used (v + 1 - 1)) gap)))))
      (cases_Bool (is_free_unit used v)))
      (λ (taken : is_free_unit used (v + 1) ≡ false).
      let holds = holds_there (v + 1) taken parts.0 in
      ⊎_elim
      (λ (free' : is_free_unit used v ≡ true).
      or_right (eqb ((v + 1) % 1024) 0) _ (or_right (begins_run (is_free_unit used) (v + 1)) _ (or_left (ends_run (is_free_unit used) (v + 1)) _
      (and_from (ltb 0 (v + 1) && is_free_unit used (v + 1 - 1)) (not (is_free_unit used (v + 1)))
      (and_from (ltb 0 (v + 1)) (is_free_unit used (v + 1 - 1)) (lt-ltb 0 (v + 1) (omega arith)) (ap (is_free_unit used) back ∙ free')) (not_from_false _ taken)))))
      (λ (taken' : is_free_unit used v ≡ false).
      ⊎_elim
      (λ (holds' : holds_data used v ≡ true).
      absurd (both_ways (one_role used sys meta dat v (v + 1)) apart
      (or_right (is_among sys v && is_among sys (v + 1)) _ (or_right (is_among meta v && is_among meta (v + 1)) _
      (and_from (is_among dat v || holds_data used v) (is_among dat (v + 1) || holds_data used (v + 1)) (or_right (is_among dat v) _ holds') (or_right (is_among dat (v + 1)) _ holds))))))
      (λ (none : holds_data used v ≡ false).
      let data_ = data_there used (v + 1) holds in
      single used first n next (v + 1)
      (⊎_elim (λ zeroth. is_1 first n next (v + 1) (omega (arith, zeroth)))
      (λ rest. ⊎_elim (λ e. is_65 first n next (v + 1) (omega (arith, e))) (λ e. is_262145 first n next (v + 1) (omega (arith, e))) rest)
      (odd_unit used v data_.0 taken' none data_.1)))
      (cases_Bool (holds_data used v)))
      (cases_Bool (is_free_unit used v)))
      (cases_Bool (is_free_unit used (v + 1))))
      (or_cases (eqb ((v + 1) % 1024) 0) (not (one_role used sys meta dat (v + 1 - 1) (v + 1))) parts.1)
    where
      and_off : (a b : Bool) → b ≡ false → (a && b) ≡ false
      and_off true b f = f
      and_off false b f = refl

  -- behind a unit of the chunk tree or of the other trees stands one that no list of these has
  pub behind : (v : ℕ) → is_among sys (v + 1) ≡ false → is_among meta (v + 1) ≡ false → (is_among sys v || is_among meta v) ≡ true → is_free_unit used v ≡ true → reason used first n next (v + 1) ≡ true
  behind v no_system no_metadata t free' =
      ⊎_elim
      (λ (free : is_free_unit used (v + 1) ≡ true).
      let inside : v + 1 < unit_count used = ⊎_elim (λ (h : v + 1 < unit_count used). h) (λ (past : unit_count used ≤ v + 1). absurd (both_ways (is_free_unit used (v + 1)) (past_units used (v + 1) past) free)) (cases_lt (v + 1) (unit_count used)) in
      let out : is_in first n (v + 1) ≡ false =
      ⊎_elim
      (λ (on : is_in first n (v + 1) ≡ true).
      let parts = and_parts (leb first (v + 1)) (ltb (v + 1) (first + n)) on in
      absurd (both_ways (is_among sys (v + 1)) no_system (to_sys (v + 1) (leb-true first (v + 1) parts.0) (ltb-true (v + 1) (first + n) parts.1))))
      (λ (off : is_in first n (v + 1) ≡ false). off)
      (cases_Bool (is_in first n (v + 1))) in
      ⊎_elim
      (λ (system : is_among sys v ≡ true).
      let range = in_sys v system in
      let taken : is_in first n v ≡ true = and_from (leb first v) (ltb v (first + n)) (le-leb first v range.0) (lt-ltb v (first + n) range.1) in
      single used first n next (v + 1) (is_end first n next (v + 1) (behind_system used first n v taken out)))
      (λ (metadata : is_among meta v ≡ true).
      let there = in_meta v metadata in
      let passes = before used first n (v + 1) free out in
      let place = rank_in used first n 0 m v there in
      let follows : rank (is_other used first n) (v + 1) ≡ rank (is_other used first n) v + 1 = rank_next (is_other used first n) v (other_free used first n 0 m v there).passes in
      ⊎_elim
      (λ (lower : rank (is_other used first n) (v + 1) < 0 + m).
      absurd (both_ways (is_among meta (v + 1)) no_metadata (to_meta (v + 1) (put_in used first n 0 m (v + 1) inside passes (omega arith) lower))))
      (λ (last : 0 + m ≤ rank (is_other used first n) (v + 1)).
      let at : rank (is_other used first n) (v + 1) ≡ m = omega (arith, last, place.1, follows) in
      single used first n next (v + 1)
      (is_next first n next (v + 1) (sym (sym (ap (λ (k : ℕ). get_or (others used first n) k 0) at) ∙ rank_at used first n (v + 1) inside passes))))
      (cases_lt (rank (is_other used first n) (v + 1)) (0 + m)))
      (or_cases (is_among sys v) (is_among meta v) t))
      (λ (taken : is_free_unit used (v + 1) ≡ false).
      let back : v + 1 - 1 ≡ v = omega arith in
      or_right (eqb ((v + 1) % 1024) 0) _ (or_right (begins_run (is_free_unit used) (v + 1)) _ (or_left (ends_run (is_free_unit used) (v + 1)) _
      (and_from (ltb 0 (v + 1) && is_free_unit used (v + 1 - 1)) (not (is_free_unit used (v + 1)))
      (and_from (ltb 0 (v + 1)) (is_free_unit used (v + 1 - 1)) (lt-ltb 0 (v + 1) (omega arith)) (ap (is_free_unit used) back ∙ free')) (not_from_false _ taken)))))
      (cases_Bool (is_free_unit used (v + 1)))

run_count : (used : List Bool) → tally (begins_run (is_free_unit used)) 0 (usable_units used) ≡ length (free_runs used)
unfolding free_runs maximal_runs
run_count used =
    tally_within (begins_run (is_free_unit used)) (unit_count used) (usable_units used) (omega arith) (λ u past. and_left (is_free_unit used u) _ (past_units used u past))
    ∙ (tally-is (begins_run (is_free_unit used)) 0 (unit_count used)
    ∙ sym (length-map (filter (begins_run (is_free_unit used)) (range_with_len 0 (unit_count used))) (run_from (is_free_unit used) (unit_count used))))

few_reasons : (used : List Bool) (first n next : ℕ) → 1 ≤ usable_units used
    → tally (reason used first n next) 1 (usable_units used - 1) ≤ 2 * length (free_runs used) + 6 + div_ceil (length used) (2 ^ 18)
few_reasons used first n next some =
    let t : ℕ = usable_units used in
    let m : ℕ = t - 1 in
    let free = is_free_unit used in
    let multiple : ℕ → Bool = λ u. eqb (u % 1024) 0 in
    let cuts : tally multiple 1 m ≤ div_ceil t 1024 = omega (arith, tally_from_one multiple t some, tally_multiples t) in
    let whole : div_ceil t 1024 ≤ div_ceil (length used) 262144 = omega arith in
    omega (
      arith,
      cuts,
      whole,
      run_count used,
      tally_ends free t,
      tally_from_one (begins_run free) t some,
      tally_from_one (ends_run free) t some,
      tally_either multiple (λ u. begins_run free u || (ends_run free u || others_of first n next u)) 1 m,
      tally_either (begins_run free) (λ u. ends_run free u || others_of first n next u) 1 m,
      tally_either (ends_run free) (others_of first n next) 1 m,
      tally_either (λ u. eqb u 1) (λ u. eqb u 65 || (eqb u 262145 || (eqb u first || (eqb u (first + n) || eqb u next)))) 1 m,
      tally_either (λ u. eqb u 65) (λ u. eqb u 262145 || (eqb u first || (eqb u (first + n) || eqb u next))) 1 m,
      tally_either (λ u. eqb u 262145) (λ u. eqb u first || (eqb u (first + n) || eqb u next)) 1 m,
      tally_either (λ u. eqb u first) (λ u. eqb u (first + n) || eqb u next) 1 m,
      tally_either (λ u. eqb u (first + n)) (λ u. eqb u next) 1 m,
      tally_one 1 1 m,
      tally_one 65 1 m,
      tally_one 262145 1 m,
      tally_one first 1 m,
      tally_one (first + n) 1 m,
      tally_one next 1 m,
    )

-- every start of a chunk of a plan has a reason
pub reasons_few : (used : List Bool) (first n next : ℕ) → tally (reason used first n next) 1 (usable_units used - 1) ≤ 2 * length (free_runs used) + 8 + div_ceil (length used) (2 ^ 18)
reasons_few used first n next =
    ⊎_elim
    (λ (some : 0 < usable_units used). omega (arith, few_reasons used first n next some))
    (λ (none : usable_units used ≤ 0).
    let no_units : usable_units used - 1 ≡ 0 = omega arith in
    omega (arith, ap (tally (reason used first n next) 1) no_units, tally-zero (reason used first n next) 1))
    (cases_lt 0 (usable_units used))
