-- What the units of a plan are used for.
use Rattle.unit_plan.proofs.Imports.{◌≡◌, ℕ, ◌+◌, ◌*◌, ◌<◌, ◌≤◌, ◌||◌, ltb, leb, not, Bool, true, false, List, length, get_or, cond, Some, None, inr, refl, sym, ◌∙◌, ap, subst, arith, ⊎_elim, All, cases_Bool, cases_lt, and_parts, and_from, or_cases, or_left, or_right, not-true, not_from_false, both_ways, lt-ltb, ltb-true, leb-true, Any-from_list_any, IsMaximalRun, IsFreeUnit, Run, System, Metadata, Data, Plan, Need, is_in, is_among, is_chosen, holds_data, is_spare, usable_units, is_in_runs, has_role, role_of, role_by, use_of, usable_end, is_filler, RolesAreUses, PlansFit, AreFreeUnits, IsSoundPlan}
use Rattle.unit_plan.proofs.Sound.{plans_sound, spare_inside}
use Rattle.unit_plan.proofs.Starts.{among_contains, data_there}

pub bools_agree : (a b : Bool) → (a ≡ true → b ≡ true) → (b ≡ true → a ≡ true) → a ≡ b
bools_agree true true f g = refl
bools_agree true false f g = sym (f refl)
bools_agree false true f g = g refl
bools_agree false false f g = refl

-- what a unit of one of the runs passes, and a unit of a run as a test
pub in_runs_pass : (p : ℕ → Bool) (runs : List Run) (u : ℕ) → All (IsMaximalRun p) runs → is_in_runs runs u ≡ true → p u ≡ true
in_runs_pass p runs u each t =
    let found = Any-from_list_any (λ r. is_in r.first r.count u) runs t in
    let r : Run = found.1 in
    let parts = and_parts (leb r.first u) (ltb u (r.first + r.count)) found.4 in
    let run = subst (IsMaximalRun p) found.3 (each found.0 r found.2) in
    run.all u (leb-true r.first u parts.0, ltb-true u (r.first + r.count) parts.1)

pub free_of : (used : List Bool) (n : ℕ) (units : List ℕ) (u : ℕ) → AreFreeUnits used n units → is_among units u ≡ true → IsFreeUnit used u
free_of used n units u are t =
    let there = among_contains units u t in
    subst (IsFreeUnit used) there.2 (are.free there.0 u there.1)

by_lists : (s m d h f : Bool) → role_by (((s || (m || d)) || h) || f) s m ≡ cond s (Some System) (cond m (Some Metadata) (cond ((d || h) || f) (Some Data) None))
by_lists true m d h f = refl
by_lists false true d h f = refl
by_lists false false true h f = refl
by_lists false false false true f = refl
by_lists false false false false true = refl
by_lists false false false false false = refl

module _ (used : List Bool) (need : Need) (plan : Plan) (sound : IsSoundPlan used need plan) where
  abbrev n : ℕ
  n = length used

  -- a unit that a list names, or that holds data, has usable blocks
  used_inside : (u : ℕ) → (is_chosen plan.system plan.metadata plan.data_ u || holds_data used u) ≡ true → 256 * u < usable_end n
  unfolding is_chosen
  used_inside u t =
      ⊎_elim
      (λ chosen.
      let free : IsFreeUnit used u =
      ⊎_elim (λ s. free_of used need.system plan.system u sound.system s)
      (λ rest. ⊎_elim (λ m. free_of used need.metadata plan.metadata u sound.metadata m) (λ d. free_of used need.data_ plan.data_ u sound.data_ d) (or_cases (is_among plan.metadata u) (is_among plan.data_ u) rest))
      (or_cases (is_among plan.system u) (is_among plan.metadata u || is_among plan.data_ u) chosen) in
      omega (arith, free.inside))
      (λ holds.
      let there = data_there used u holds in
      ⊎_elim (λ (low : 256 * u < usable_end n). low)
      (λ (past : usable_end n ≤ 256 * u). absurd (there.1.unreserved (inr (inr (inr (omega (arith, past, there.1.low), there.1.inside))))))
      (cases_lt (256 * u) (usable_end n)))
      (or_cases (is_chosen plan.system plan.metadata plan.data_ u) (holds_data used u) t)

  abbrev spare : ℕ → Bool
  spare = is_spare used plan.system plan.metadata plan.data_

  abbrev stays_free : ℕ → Bool
  stays_free = is_in_runs plan.unallocated

  pub unallocated_spare : (u : ℕ) → stays_free u ≡ true → spare u ≡ true
  unallocated_spare u t = in_runs_pass spare plan.unallocated u sound.unallocated.each t

  pub role_is : (u : ℕ) → 1 ≤ u → role_of plan n u ≡ use_of used plan u
  unfolding role_of has_role is_chosen
  role_is u low =
      let x : Bool = is_chosen plan.system plan.metadata plan.data_ u || holds_data used u in
      let f : Bool = is_filler used plan u in
      let has : has_role plan n u ≡ (x || f) =
      bools_agree (has_role plan n u) (x || f)
      (λ t.
      let parts = and_parts (ltb (256 * u) (usable_end n)) (not (stays_free u)) (and_parts (ltb 0 u) _ t).1 in
      let inside : 256 * u < usable_end n = ltb-true (256 * u) (usable_end n) parts.0 in
      ⊎_elim (λ (on : x ≡ true). or_left x f on)
      (λ (none : x ≡ false).
      or_right x f
      (and_from (spare u) (not (stays_free u))
      (and_from (ltb 0 u) _ (lt-ltb 0 u low) (and_from (ltb u (usable_units used)) (not x) (lt-ltb u (usable_units used) (omega (arith, inside))) (not_from_false x none))) parts.1))
      (cases_Bool x))
      (λ t.
      let parts : (256 * u < usable_end n) × (stays_free u ≡ false) =
      ⊎_elim
      (λ (on : x ≡ true). (
        used_inside u on,
        ⊎_elim
            (λ (stays : stays_free u ≡ true).
            absurd (both_ways x (not-true x (and_parts (ltb u (usable_units used)) (not x) (and_parts (ltb 0 u) _ (unallocated_spare u stays)).1).1) on))
            (λ (off : stays_free u ≡ false). off)
            (cases_Bool (stays_free u)),
      ))
      (λ (filler : f ≡ true).
      let both = and_parts (spare u) (not (stays_free u)) filler in
      let below : u < usable_units used = ltb-true u (usable_units used) (and_parts (ltb u (usable_units used)) (not x) (and_parts (ltb 0 u) _ both.0).1).0 in
      (omega (arith, below), not-true (stays_free u) both.1))
      (or_cases x f t) in
      and_from (ltb 0 u) _ (lt-ltb 0 u low) (and_from (ltb (256 * u) (usable_end n)) _ (lt-ltb (256 * u) (usable_end n) parts.0) (not_from_false (stays_free u) parts.1))) in
      ap (λ b. role_by b (is_among plan.system u) (is_among plan.metadata u)) has
      ∙ by_lists (is_among plan.system u) (is_among plan.metadata u) (is_among plan.data_ u) (holds_data used u) f

pub roles_uses : RolesAreUses
roles_uses = λ used need plan enough is u low. role_is used need plan (plans_sound used need plan enough is) u low

pub plans_fit : PlansFit
plans_fit = λ used need plan enough is.
    let sound : IsSoundPlan used need plan = plans_sound used need plan enough is in
    record {
      system = λ k d h. let free : IsFreeUnit used (get_or plan.system k d) = sound.system.free k d h in omega (arith, free.inside);
      metadata = λ k d h. let free : IsFreeUnit used (get_or plan.metadata k d) = sound.metadata.free k d h in omega (arith, free.inside);
      unallocated = λ k d h.
          let r : Run = get_or plan.unallocated k d in
          let run = sound.unallocated.each k d h in
          omega (arith, spare_inside used plan.system plan.metadata plan.data_ r run);
    }
