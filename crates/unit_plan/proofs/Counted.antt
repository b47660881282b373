-- The chunks of a plan are few.
use Rattle.unit_plan.proofs.Imports.{◌≡◌, ◌≢◌, ℕ, zero, suc, ◌+◌, ◌-◌, ◌*◌, ◌%◌, ◌<◌, ◌≤◌, ◌&&◌, ◌||◌, eqb, leb, ltb, not, Bool, true, false, List, [], ◌∷◌, length, get_or, cond, Option, Some, None, refl, sym, ◌∙◌, ap, subst, arith, ⊎_elim, All, AllPairs, MatchOption, cases_Bool, cases_lt, cases_eq, and_parts, and_from, or_cases, or_left, or_right, not-true, not_from_false, both_ways, eq-eqb, lt-ltb, le-leb, ltb-true, leb-true, Any-from_list_any, list_any-from_Any, IsMaximalRun, free_runs, Run, is_free_unit, decides_free_unit, PlannedChunk, Role, System, Metadata, Data, Plan, Need, is_among, is_chosen, is_in, is_spare, holds_data, lowest_long, others, usable_units, role_of, has_role, role_by, use_of, usable_end, is_data_unit, is_filler, is_in_runs, IsChunk, ChunksAreFew, AreUnitsApart, AreFreeUnits, IsSoundPlan}
use Rattle.unit_plan.proofs.Enough.{IsLowest, lowest_is}
use Rattle.unit_plan.proofs.Sound.{plans_sound}
use Rattle.unit_plan.proofs.Starts.{among_contains, free_no_data}
use Rattle.unit_plan.proofs.Tallies.{tally, tally-suc, if_true}
use Rattle.unit_plan.proofs.Uses.{free_of, role_is}
use Rattle.unit_plan.proofs.ChunkCount.{role, one_role, begins, reason, single, is_1, why, behind, reasons_few}

-- a chunk begins at a unit of a range that passes
record Starts (p : ℕ → Bool) (low high : ℕ) (c : PlannedChunk) : Type 0 where
  first : ℕ
  is : c.start ≡ 256 * first
  some : 1 ≤ c.length
  above : low ≤ first
  below : first < high
  passes : p first ≡ true

start_low : (c : PlannedChunk) (cs : List PlannedChunk) → AllPairs (λ c d. c.start + c.length ≤ d.start) (c ∷ cs) → (k : ℕ) (d : PlannedChunk) → k < length (c ∷ cs) → c.start ≤ (get_or (c ∷ cs) k d).start
start_low c cs ascend zero d h = omega arith
start_low c cs ascend (suc k) d h = let apart : c.start + c.length ≤ (get_or (c ∷ cs) (suc k) d).start = ascend 0 (suc k) d (omega arith) h in omega (arith, apart)

-- there are no more such chunks than units that pass, where they ascend
few : (p : ℕ → Bool) (a m : ℕ) (cs : List PlannedChunk) → ((k : ℕ) (d : PlannedChunk) → k < length cs → Starts p a (a + m) (get_or cs k d)) → AllPairs (λ c d. c.start + c.length ≤ d.start) cs → length cs ≤ tally p a m
few p a m [] all ascend = omega arith
few p a zero (c ∷ cs) all ascend = let s = all 0 c (omega arith) in absurd (omega (arith, s.above, s.below))
few p a (suc m) (c ∷ cs) all ascend =
    let s : Starts p a (a + suc m) c = all 0 c (omega arith) in
    ⊎_elim
    (λ (here : s.first ≡ a).
    let rest : length cs ≤ tally p (a + 1) m =
    few p (a + 1) m cs
    (λ k d h.
    let t : Starts p a (a + suc m) (get_or cs k d) = all (suc k) d (omega (arith, h)) in
    let apart : c.start + c.length ≤ (get_or cs k d).start = ascend 0 (suc k) d (omega arith) (omega (arith, h)) in
    record { first = t.first; is = t.is; some = t.some; above = omega (arith, apart, t.is, s.is, s.some, here); below = omega (arith, t.below); passes = t.passes })
    (λ i j d l h. ascend (suc i) (suc j) d (omega (arith, l)) (omega (arith, h))) in
    omega (arith, rest, tally-suc p a m, if_true (p a) (sym (ap p here) ∙ s.passes)))
    (λ (later : s.first ≡ a → ⊥).
    let all_later : length (c ∷ cs) ≤ tally p (a + 1) m =
    few p (a + 1) m (c ∷ cs)
    (λ k d h.
    let t : Starts p a (a + suc m) (get_or (c ∷ cs) k d) = all k d h in
    let low : c.start ≤ (get_or (c ∷ cs) k d).start = start_low c cs ascend k d h in
    record { first = t.first; is = t.is; some = t.some; above = omega (arith, low, t.is, s.is, s.above, later); below = omega (arith, t.below); passes = t.passes })
    ascend in
    omega (arith, all_later, tally-suc p a m))
    (cases_eq s.first a)

-- where a unit of a maximal run is followed by one that passes, that one is of the run too
runs_go_on : (p : ℕ → Bool) (runs : List Run) (v : ℕ) → All (IsMaximalRun p) runs → is_in_runs runs v ≡ true → p (v + 1) ≡ true → is_in_runs runs (v + 1) ≡ true
runs_go_on p runs v each t passes =
    let found = Any-from_list_any (λ (r : Run). is_in r.first r.count v) runs t in
    let r : Run = found.1 in
    let run = subst (IsMaximalRun p) found.3 (each found.0 r found.2) in
    let parts = and_parts (leb r.first v) (ltb v (r.first + r.count)) found.4 in
    let low : r.first ≤ v = leb-true r.first v parts.0 in
    let high : v < r.first + r.count = ltb-true v (r.first + r.count) parts.1 in
    let within : v + 1 < r.first + r.count =
    ⊎_elim (λ (h : v + 1 < r.first + r.count). h)
    (λ (end : r.first + r.count ≤ v + 1). let at : r.first + r.count ≡ v + 1 = omega (arith, end, high) in absurd (both_ways (p (r.first + r.count)) run.behind (ap p at ∙ passes)))
    (cases_lt (v + 1) (r.first + r.count)) in
    list_any-from_Any (λ (r : Run). is_in r.first r.count (v + 1)) runs
    (found.0, r, found.2, found.3, and_from (leb r.first (v + 1)) (ltb (v + 1) (r.first + r.count)) (le-leb r.first (v + 1) (omega (arith, low))) (lt-ltb (v + 1) (r.first + r.count) within))

module _ (used : List Bool) (need : Need) (plan : Plan) (sound : IsSoundPlan used need plan) where
  abbrev n : ℕ
  n = length used

  abbrev sys : List ℕ
  sys = plan.system

  abbrev meta : List ℕ
  meta = plan.metadata

  abbrev dat : List ℕ
  dat = plan.data_

  no_data : (k : ℕ) (units : List ℕ) (u : ℕ) → AreFreeUnits used k units → is_among units u ≡ true → holds_data used u ≡ false
  no_data k units u are t = free_no_data used u ((decides_free_unit used u).1 (free_of used k units u are t))

  off : (xs ys : List ℕ) (u : ℕ) → AreUnitsApart xs ys → is_among xs u ≡ true → is_among ys u ≡ false
  off xs ys u apart t =
      ⊎_elim (λ (on : is_among ys u ≡ true). absurd (apart u (among_contains xs u t) (among_contains ys u on))) (λ (none : is_among ys u ≡ false). none) (cases_Bool (is_among ys u))

  swap : (xs ys : List ℕ) → AreUnitsApart xs ys → AreUnitsApart ys xs
  swap xs ys apart = λ u a b. apart u b a

  as_system : (u : ℕ) → is_among sys u ≡ true → use_of used plan u ≡ Some System
  as_system u t = rw t refl

  as_metadata : (u : ℕ) → is_among meta u ≡ true → use_of used plan u ≡ Some Metadata
  as_metadata u t = rw (off meta sys u (swap sys meta sound.system_metadata) t, t) refl

  as_data : (u : ℕ) → (is_among dat u || holds_data used u) ≡ true → use_of used plan u ≡ Some Data
  as_data u t =
      ⊎_elim
      (λ (chosen : is_among dat u ≡ true). rw (off dat sys u (swap sys dat sound.system_data) chosen, off dat meta u (swap meta dat sound.metadata_data) chosen, chosen) refl)
      (λ (holds : holds_data used u ≡ true). rw (none need.system sys u sound.system holds, none need.metadata meta u sound.metadata holds, t) refl)
      (or_cases (is_among dat u) (holds_data used u) t)
    where
      none : (k : ℕ) (units : List ℕ) (u : ℕ) → AreFreeUnits used k units → holds_data used u ≡ true → is_among units u ≡ false
      none k units u are holds =
          ⊎_elim (λ (on : is_among units u ≡ true). absurd (both_ways (holds_data used u) (no_data k units u are on) holds)) (λ (f : is_among units u ≡ false). f) (cases_Bool (is_among units u))

  -- units that are used for the same have the same role
  one_use : (u v : ℕ) → one_role used sys meta dat u v ≡ true → use_of used plan u ≡ use_of used plan v
  one_use u v t =
      ⊎_elim (λ s. let parts = and_parts (is_among sys u) (is_among sys v) s in as_system u parts.0 ∙ sym (as_system v parts.1))
      (λ rest. ⊎_elim (λ m. let parts = and_parts (is_among meta u) (is_among meta v) m in as_metadata u parts.0 ∙ sym (as_metadata v parts.1))
      (λ d. let parts = and_parts (is_among dat u || holds_data used u) (is_among dat v || holds_data used v) d in as_data u parts.0 ∙ sym (as_data v parts.1))
      (or_cases (is_among meta u && is_among meta v) _ rest))
      (or_cases (is_among sys u && is_among sys v) _ t)

  -- a unit that has a use is named by a list, holds data, or is a filler
  filler_else : (u : ℕ) (r : Role) → use_of used plan u ≡ Some r → role used sys meta dat u ≡ false → is_filler used plan u ≡ true
  filler_else u r is = by_use (is_among sys u) (is_among meta u) (is_data_unit used plan u) (is_filler used plan u) is
    where
      by_use : (s m d f : Bool) → cond s (Some System) (cond m (Some Metadata) (cond (d || f) (Some Data) None)) ≡ Some r → (s || (m || d)) ≡ false → f ≡ true
      by_use true m d f e t = absurd (both_ways true t refl)
      by_use false true d f e t = absurd (both_ways true t refl)
      by_use false false true f e t = absurd (both_ways true t refl)
      by_use false false false true e t = refl
      by_use false false false false e t = absurd (subst (λ (o : Option Role). MatchOption o (Unit {0}) (λ _. ⊥)) e tt)

  off_lists : (u : ℕ) → role used sys meta dat u ≡ false → (is_among sys u ≡ false) × (is_among meta u ≡ false)
  off_lists u = by (is_among sys u) (is_among meta u) (is_among dat u || holds_data used u)
    where
      by : (s m d : Bool) → (s || (m || d)) ≡ false → (s ≡ false) × (m ≡ false)
      by true m d t = absurd (both_ways true t refl)
      by false true d t = absurd (both_ways true t refl)
      by false false d t = (refl, refl)

  as_filler : (u : ℕ) → role used sys meta dat u ≡ false → is_filler used plan u ≡ true → use_of used plan u ≡ Some Data
  as_filler u off t = by (is_among sys u) (is_among meta u) (is_data_unit used plan u) (is_filler used plan u) off t
    where
      by : (s m d f : Bool) → (s || (m || d)) ≡ false → f ≡ true → cond s (Some System) (cond m (Some Metadata) (cond (d || f) (Some Data) None)) ≡ Some Data
      by true m d f t on = absurd (both_ways true t refl)
      by false true d f t on = absurd (both_ways true t refl)
      by false false true f t on = absurd (both_ways true t refl)
      by false false false f t on = rw on refl

  -- a spare unit before a filler is one too
  filler_before : (v : ℕ) → is_spare used sys meta dat v ≡ true → is_filler used plan (v + 1) ≡ true → is_filler used plan v ≡ true
  filler_before v spare t =
      let next = and_parts (is_spare used sys meta dat (v + 1)) (not (is_in_runs plan.unallocated (v + 1))) t in
      let off : is_in_runs plan.unallocated v ≡ false =
      ⊎_elim
      (λ (stays : is_in_runs plan.unallocated v ≡ true).
      let more = runs_go_on (is_spare used sys meta dat) plan.unallocated v sound.unallocated.each stays next.0 in
      absurd (both_ways (is_in_runs plan.unallocated (v + 1)) (not-true _ next.1) more))
      (λ (off : is_in_runs plan.unallocated v ≡ false). off)
      (cases_Bool (is_in_runs plan.unallocated v)) in
      and_from (is_spare used sys meta dat v) (not (is_in_runs plan.unallocated v)) spare (not_from_false _ off)

  -- a unit that no list names, and that holds no data, is spare
  spare_else : (v : ℕ) → 1 ≤ v → v < usable_units used → role used sys meta dat v ≡ false → is_spare used sys meta dat v ≡ true
  unfolding is_chosen
  spare_else v some inside off =
      let none : (is_chosen sys meta dat v || holds_data used v) ≡ false = by (is_among sys v) (is_among meta v) (is_among dat v) (holds_data used v) off in
      and_from (ltb 0 v) _ (lt-ltb 0 v some) (and_from (ltb v (usable_units used)) _ (lt-ltb v (usable_units used) inside) (not_from_false _ none))
    where
      by : (s m d h : Bool) → (s || (m || (d || h))) ≡ false → ((s || (m || d)) || h) ≡ false
      by true m d h t = t
      by false true d h t = t
      by false false true h t = t
      by false false false h t = t

  -- a filler has its use with the unit before it, or stands behind units of trees
  filler_why : (v : ℕ) → 1 ≤ v → v < usable_units used → is_filler used plan (v + 1) ≡ true → use_of used plan v ≢ Some Data → (is_among sys v || is_among meta v) ≡ true
  filler_why v some inside t other =
      ⊎_elim (λ (named : (is_among sys v || is_among meta v) ≡ true). named)
      (λ (none : (is_among sys v || is_among meta v) ≡ false).
      ⊎_elim (λ (data' : (is_among dat v || holds_data used v) ≡ true). absurd (other (as_data v data')))
      (λ (no_data : (is_among dat v || holds_data used v) ≡ false).
      let off : role used sys meta dat v ≡ false = by (is_among sys v) (is_among meta v) (is_among dat v || holds_data used v) none no_data in
      absurd (other (as_filler v off (filler_before v (spare_else v some inside off) t))))
      (cases_Bool (is_among dat v || holds_data used v)))
      (cases_Bool (is_among sys v || is_among meta v))
    where
      by : (s m d : Bool) → (s || m) ≡ false → d ≡ false → (s || (m || d)) ≡ false
      by true m d t f = t
      by false true d t f = t
      by false false d t f = f

  tree_free : (v : ℕ) → (is_among sys v || is_among meta v) ≡ true → is_free_unit used v ≡ true
  tree_free v t =
      (decides_free_unit used v).1
      (⊎_elim (λ s. free_of used need.system sys v sound.system s) (λ m. free_of used need.metadata meta v sound.metadata m) (or_cases (is_among sys v) (is_among meta v) t))

role_low : (plan : Plan) (n u : ℕ) (r : Role) → role_of plan n u ≡ Some r → has_role plan n u ≡ true
unfolding role_of
role_low plan n u r is = by_role (has_role plan n u) (is_among plan.system u) (is_among plan.metadata u) is
  where
    by_role : (b s m : Bool) → role_by b s m ≡ Some r → b ≡ true
    by_role true s m e = refl
    by_role false s m e = absurd (subst (λ (o : Option Role). MatchOption o (Unit {0}) (λ _. ⊥)) e tt)

inside_of : (plan : Plan) (n u : ℕ) → has_role plan n u ≡ true → (0 < u) × (256 * u < usable_end n)
unfolding has_role
inside_of plan n u t =
    let parts = and_parts (ltb 0 u) _ t in
    (ltb-true 0 u parts.0, ltb-true (256 * u) (usable_end n) (and_parts (ltb (256 * u) (usable_end n)) _ parts.1).0)

pub chunks_few : ChunksAreFew
chunks_few = λ used need plan chunks enough is are.
    let n : ℕ = need.system in
    let first : ℕ = lowest_long n (free_runs used) in
    let lowest : IsLowest used n first = lowest_is used n enough.run in
    let sound : IsSoundPlan used need plan = plans_sound used need plan enough is in
    let at : ℕ = get_or (others used first n) need.metadata 0 in
    let p : ℕ → Bool = reason used first n at in
    let why_at : (c : PlannedChunk) → IsChunk (role_of plan (length used)) (usable_end (length used)) c → Starts p 1 (1 + (usable_units used - 1)) c = λ c chunk.
    let role_at : role_of plan (length used) chunk.first ≡ Some c.role = chunk.one_role chunk.first (omega arith) chunk.some in
    let low = inside_of plan (length used) chunk.first (role_low plan (length used) chunk.first c.role role_at) in
    record {
      first = chunk.first;
      is = chunk.starts;
      some = chunk.not_empty;
      above = omega (arith, low.0);
      below = omega (arith, low.1);
      passes =
          ⊎_elim
          (λ (cut : chunk.first % 1024 ≡ 0). or_left (eqb (chunk.first % 1024) 0) _ (eq-eqb (chunk.first % 1024) 0 cut))
          (λ changes.
          ⊎_elim
          (λ (zeroth : chunk.first ≡ 1). single used first n at chunk.first (is_1 first n at chunk.first zeroth))
          (λ (later : chunk.first ≡ 1 → ⊥).
          let v : ℕ = chunk.first - 1 in
          let back : v + 1 ≡ chunk.first = omega (arith, low.0) in
          let used_for : use_of used plan chunk.first ≡ Some c.role = sym (role_is used need plan sound chunk.first (omega (arith, low.0))) ∙ role_at in
          let used_before : use_of used plan v ≢ Some c.role = λ e. changes v back (role_is used need plan sound v (omega (arith, low.0, later)) ∙ e) in
          subst (λ (u : ℕ). p u ≡ true) back
          (⊎_elim
          (λ (named : role used plan.system plan.metadata plan.data_ chunk.first ≡ true).
          let apart : one_role used plan.system plan.metadata plan.data_ v chunk.first ≡ false =
          ⊎_elim
          (λ (same : one_role used plan.system plan.metadata plan.data_ v chunk.first ≡ true). absurd (used_before (one_use used need plan sound v chunk.first same ∙ used_for)))
          (λ (other : one_role used plan.system plan.metadata plan.data_ v chunk.first ≡ false). other)
          (cases_Bool (one_role used plan.system plan.metadata plan.data_ v chunk.first)) in
          why used first n need.metadata need.data_ lowest plan.system plan.metadata plan.data_ is.system is.metadata is.data_ v
          (subst (λ (u : ℕ). begins used plan.system plan.metadata plan.data_ u ≡ true) (sym back)
          (and_from (role used plan.system plan.metadata plan.data_ chunk.first) _ named (or_right (eqb (chunk.first % 1024) 0) _ (not_from_false _ apart)))))
          (λ (off : role used plan.system plan.metadata plan.data_ chunk.first ≡ false).
          let filler = filler_else used need plan sound chunk.first c.role used_for off in
          let is_data : Some c.role ≡ Some Data = sym used_for ∙ as_filler used need plan sound chunk.first off filler in
          let named = filler_why used need plan sound v (omega (arith, low.0, later)) (omega (arith, low.1)) (subst (λ (u : ℕ). is_filler used plan u ≡ true) (sym back) filler) (λ e. used_before (e ∙ sym is_data)) in
          let lists = off_lists used need plan sound chunk.first off in
          behind used first n need.metadata need.data_ lowest plan.system plan.metadata plan.data_ is.system is.metadata is.data_ v
          (subst (λ (u : ℕ). is_among plan.system u ≡ false) (sym back) lists.0) (subst (λ (u : ℕ). is_among plan.metadata u ≡ false) (sym back) lists.1) named
          (tree_free used need plan sound v named))
          (cases_Bool (role used plan.system plan.metadata plan.data_ chunk.first))))
          (cases_eq chunk.first 1))
          chunk.before;
    } in
    omega (arith, few p 1 (usable_units used - 1) chunks (λ k d h. why_at (get_or chunks k d) (are.each k d h)) are.ascending, reasons_few used first n at)
