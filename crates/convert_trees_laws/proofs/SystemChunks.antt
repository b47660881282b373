-- The chunks of the chunk tree are few.
use Rattle.convert_trees_laws.proofs.Imports.{◌≡◌, ◌⊎◌, ℕ, suc, ◌+◌, ◌-◌, ◌*◌, ◌%◌, ◌<◌, ◌≤◌, Bool, true, false, List, [], ◌∷◌, length, get_or, cond, filter, Some, inl, inr, refl, sym, ◌∙◌, ap, subst, arith, ⊎_elim, AllPairs, both_ways, cases_Bool, cases_eq, free_runs, IsFreeUnit, contains_range, range_contains, HasEnoughSpace, IsPlan, is_among, lowest_long, AreChunks, IsChunk, role_by, role_of, has_role, usable_end, use_of, IsSoundPlan, PlannedChunk, Role, System, Metadata, Data, Need, Plan, plans_sound}
use Rattle.std.specs.Prelude.{Contains}
use Rattle.convert_steps.proofs.unit_plan.Starts.{among_contains, contains_among}
use Rattle.convert_steps.proofs.unit_plan.Uses.{free_of, role_is}

-- a chunk that begins at a unit of a range
record Begins (low high : ℕ) (c : PlannedChunk) : Type 0 where
  first : ℕ
  is : c.start ≡ 256 * first
  some : 1 ≤ c.length
  above : low ≤ first
  below : first < high

-- it begins at a multiple of 1024 units
record IsCut (low high : ℕ) (c : PlannedChunk) : Type 0 where
  begins : Begins low high c
  cut : begins.first % 1024 ≡ 0

-- or at the first unit of all
record IsSystem (low high : ℕ) (c : PlannedChunk) : Type 0 where
  begins : Begins low high c
  cut : (begins.first % 1024 ≡ 0) ⊎ (begins.first ≡ low)

abbrev Ascend : List PlannedChunk → Type 0
Ascend cs = AllPairs (λ c d. c.start + c.length ≤ d.start) cs

ascend_tail : (c : PlannedChunk) (cs : List PlannedChunk) → Ascend (c ∷ cs) → Ascend cs
ascend_tail c cs ascend = λ i j d l h. ascend (suc i) (suc j) d (omega (arith, l)) (omega (arith, h))

-- a later multiple
next_cut : (low f g : ℕ) → f % 1024 ≡ 0 → g % 1024 ≡ 0 → f < g → f + 1024 ≤ g
next_cut low f g a b less = omega arith

-- those behind a chunk begin behind it
behind : (low high : ℕ) (c : PlannedChunk) (cs : List PlannedChunk) → Ascend (c ∷ cs) → (s : Begins low high c) → (k : ℕ) (d : PlannedChunk) → k < length cs → (t : Begins low high (get_or cs k d)) → s.first < t.first
behind low high c cs ascend s k d h t =
    let apart : c.start + c.length ≤ (get_or cs k d).start = ascend 0 (suc k) d (omega arith) (omega (arith, h)) in
    omega (arith, apart, s.is, s.some, t.is)

-- a unit that has the role is one of the plan's for the chunk tree
among_system : (plan : Plan) (n u : ℕ) → role_of plan n u ≡ Some System → is_among plan.system u ≡ true
unfolding role_of
among_system plan n u is = by_role (has_role plan n u) (is_among plan.system u) (is_among plan.metadata u) is
  where
    by_role : (b s m : Bool) → role_by b s m ≡ Some System → s ≡ true
    by_role true true m e = refl
    by_role true false true e = absurd (cc)
    by_role true false false e = absurd (cc)
    by_role false s m e = absurd (cc)

as_system : (used : List Bool) (plan : Plan) (u : ℕ) → is_among plan.system u ≡ true → use_of used plan u ≡ Some System
as_system used plan u t = rw t refl

-- a test that tells the chunk tree's role from the others
module _ (tells : Role → Bool) (metadata : tells Metadata ≡ false) (data_ : tells Data ≡ false) where
  abbrev pub of_system : PlannedChunk → Bool
  of_system c = tells c.role

  abbrev pub system_chunks : List PlannedChunk → List PlannedChunk
  system_chunks cs = filter of_system cs

  -- what holds of those of the chunk tree
  abbrev Each : (PlannedChunk → Type 0) → List PlannedChunk → Type 0
  Each P cs = (k : ℕ) (d : PlannedChunk) → k < length cs → of_system (get_or cs k d) ≡ true → P (get_or cs k d)

  each_tail : (P : PlannedChunk → Type 0) (c : PlannedChunk) (cs : List PlannedChunk) → Each P (c ∷ cs) → Each P cs
  each_tail P c cs each = λ k d h t. each (suc k) d (omega (arith, h)) t

  filter_on : (c : PlannedChunk) (cs : List PlannedChunk) → of_system c ≡ true → length (system_chunks (c ∷ cs)) ≡ suc (length (system_chunks cs))
  filter_on c cs t = ap (λ (b : Bool). length (cond b (c ∷ system_chunks cs) (system_chunks cs))) t

  filter_off : (c : PlannedChunk) (cs : List PlannedChunk) → of_system c ≡ false → length (system_chunks (c ∷ cs)) ≡ length (system_chunks cs)
  filter_off c cs t = ap (λ (b : Bool). length (cond b (c ∷ system_chunks cs) (system_chunks cs))) t

  few_cut : (low high : ℕ) (cs : List PlannedChunk) → Each (IsCut low high) cs → Ascend cs → low ≤ high + 1023 → 1024 * length (system_chunks cs) + low ≤ high + 1023
  few_cut low high [] each ascend within = omega (arith, within)
  few_cut low high (c ∷ cs) each ascend within =
      ⊎_elim
      (λ (on : of_system c ≡ true).
      let s : IsCut low high c = each 0 c (omega arith) on in
      let f : ℕ = s.begins.first in
      let rest : 1024 * length (system_chunks cs) + (f + 1024) ≤ high + 1023 =
      few_cut (f + 1024) high cs
      (λ k d h t.
      let there : IsCut low high (get_or cs k d) = each (suc k) d (omega (arith, h)) t in
      let later : f < there.begins.first = behind low high c cs ascend s.begins k d h there.begins in
      record {
        begins = record {
          first = there.begins.first;
          is = there.begins.is;
          some = there.begins.some;
          above = next_cut low f there.begins.first s.cut there.cut later;
          below = there.begins.below;
        };
        cut = there.cut;
      })
      (ascend_tail c cs ascend) (omega (arith, s.begins.below)) in
      omega (arith, rest, s.begins.above, filter_on c cs on))
      (λ (off : of_system c ≡ false).
      omega (arith, few_cut low high cs (each_tail (IsCut low high) c cs each) (ascend_tail c cs ascend) within, filter_off c cs off))
      (cases_Bool (of_system c))

  few_system : (low high : ℕ) (cs : List PlannedChunk) → Each (IsSystem low high) cs → Ascend cs → low ≤ high → 1024 * length (system_chunks cs) + low ≤ high + 2046
  few_system low high [] each ascend within = omega (arith, within)
  few_system low high (c ∷ cs) each ascend within =
      ⊎_elim
      (λ (on : of_system c ≡ true).
      let s : IsSystem low high c = each 0 c (omega arith) on in
      let f : ℕ = s.begins.first in
      let rest : 1024 * length (system_chunks cs) + (f + 1) ≤ high + 1023 =
      few_cut (f + 1) high cs
      (λ k d h t.
      let there : IsSystem low high (get_or cs k d) = each (suc k) d (omega (arith, h)) t in
      let later : f < there.begins.first = behind low high c cs ascend s.begins k d h there.begins in
      record {
        begins = record {
          first = there.begins.first;
          is = there.begins.is;
          some = there.begins.some;
          above = omega (arith, later);
          below = there.begins.below;
        };
        cut = ⊎_elim (λ (e : there.begins.first % 1024 ≡ 0). e) (λ (e : there.begins.first ≡ low). absurd (omega (arith, later, e, s.begins.above))) there.cut;
      })
      (ascend_tail c cs ascend) (omega (arith, s.begins.below)) in
      omega (arith, rest, s.begins.above, filter_on c cs on))
      (λ (off : of_system c ≡ false).
      omega (arith, few_system low high cs (each_tail (IsSystem low high) c cs each) (ascend_tail c cs ascend) within, filter_off c cs off))
      (cases_Bool (of_system c))

  is_system : (r : Role) → tells r ≡ true → r ≡ System
  is_system System t = refl
  is_system Metadata t = absurd (both_ways (tells Metadata) metadata t)
  is_system Data t = absurd (both_ways (tells Data) data_ t)

  module _ (used : List Bool) (need : Need) (plan : Plan) (chunks : List PlannedChunk) (enough : HasEnoughSpace used need) (is : IsPlan used need plan) (are : AreChunks plan (length used) chunks) where
    abbrev lowest : ℕ
    lowest = lowest_long need.system (free_runs used)

    sound : IsSoundPlan used need plan
    sound = plans_sound used need plan enough is

    in_system : (u : ℕ) → is_among plan.system u ≡ true → (lowest ≤ u) × (u < lowest + need.system)
    in_system u t = range_contains lowest need.system u (subst (λ xs. Contains xs u) is.system (among_contains plan.system u t))

    to_system : (u : ℕ) → lowest ≤ u → u < lowest + need.system → is_among plan.system u ≡ true
    to_system u low high = contains_among plan.system u (subst (λ xs. Contains xs u) (sym is.system) (contains_range lowest need.system u low high))

    -- unit 0 is reserved
    not_first : (u : ℕ) → is_among plan.system u ≡ true → 1 ≤ u
    not_first u t =
        let free : IsFreeUnit used u = free_of used need.system plan.system u sound.system t in
        ⊎_elim (λ (e : u ≡ 0). absurd (free.unreserved 0 (omega (arith, e)) (inl (omega arith)))) (λ (other : u ≡ 0 → ⊥). omega (arith, other)) (cases_eq u 0)

    begins_there : (c : PlannedChunk) → IsChunk (role_of plan (length used)) (usable_end (length used)) c → of_system c ≡ true → IsSystem lowest (lowest + need.system) c
    begins_there c chunk t =
        let role : c.role ≡ System = is_system c.role t in
        let role_at : role_of plan (length used) chunk.first ≡ Some System = chunk.one_role chunk.first (omega arith) chunk.some ∙ ap (λ (r : Role). Some r) role in
        let range = in_system chunk.first (among_system plan (length used) chunk.first role_at) in
        record {
          begins = record { first = chunk.first; is = chunk.starts; some = chunk.not_empty; above = range.0; below = range.1 };
          cut =
              ⊎_elim
              (λ (cut : chunk.first % 1024 ≡ 0). inl cut)
              (λ changes.
              ⊎_elim
              (λ (e : chunk.first ≡ lowest). inr e)
              (λ (later : chunk.first ≡ lowest → ⊥).
              let v : ℕ = chunk.first - 1 in
              let back : v + 1 ≡ chunk.first = omega (arith, range.0, later) in
              let on : is_among plan.system v ≡ true = to_system v (omega (arith, range.0, later)) (omega (arith, range.1, back)) in
              let role_v : role_of plan (length used) v ≡ Some System = role_is used need plan sound v (not_first v on) ∙ as_system used plan v on in
              absurd (changes v back (role_v ∙ sym (ap (λ (r : Role). Some r) role))))
              (cases_eq chunk.first lowest))
              chunk.before;
        }

    pub system_chunks_few : 1024 * length (system_chunks chunks) ≤ need.system + 2046
    system_chunks_few =
        omega (arith, few_system lowest (lowest + need.system) chunks (λ k d h t. begins_there (get_or chunks k d) (are.each k d h) t) are.ascending (omega arith))
