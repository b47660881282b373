-- Chunks, one after the other.
use Rattle.unit_plan.proofs.Imports.{◌≡◌, ◌≢◌, ◌⊎◌, ℕ, zero, suc, ◌+◌, ◌-◌, ◌*◌, ◌/◌, ◌%◌, ◌<◌, ◌≤◌, min, List, [], ◌∷◌, ◌++◌, length, get_or, Option, Some, None, inl, inr, refl, sym, ◌∙◌, ap, subst, arith, ⊎_elim, All, AllPairs, Any, MatchOption, cases_eq, cases_lt, get_or_append_left, length_push, All-push, PlannedChunk, Role, IsChunk, HoldsUnit, AreChunksBy, IsJoined, AreBegun, IsWithChunk, chunk_from}
use Rattle.std.proofs.lemmas.List.Quantifiers.{all_pairs_push, Any-push}

some_not_none : {X : Type 0} (x : X) → Some x ≡ None → ⊥
some_not_none x e = subst (λ o. MatchOption o ⊥ (λ _. Unit {0})) e tt

none_not_some : {X : Type 0} (x : X) → None ≡ Some x → ⊥
none_not_some x e = some_not_none x (sym e)

cases_Option : {X : Type 0} (o : Option X) → ((x : X) × (o ≡ Some x)) ⊎ (o ≡ None)
cases_Option (Some x) = inl (x, refl)
cases_Option None = inr refl

any_more : {X : Type 0} (P : X → Type 0) (xs : List X) (y : X) → Any P xs → Any P (xs ++ y ∷ [])
any_more P xs y found =
    (found.0, found.1, omega (arith, found.2, length_push xs y), get_or_append_left xs (y ∷ []) found.1 found.0 found.2 ∙ found.3, found.4)

module _ (role : ℕ → Option Role) (usable : ℕ) (inside : (u : ℕ) (r : Role) → role u ≡ Some r → 256 * u < usable) where
  -- units that are joined have one role
  same_role : (first n : ℕ) → ((v : ℕ) → first < v → v < first + suc n → IsJoined role v) → role (first + n) ≡ role first
  same_role first zero joined = let at : first + 0 ≡ first = omega arith in ap role at
  same_role first (suc n) joined =
      let step : IsJoined role (first + suc n) = joined (first + suc n) (omega arith) (omega arith) in
      let back : first + suc n - 1 ≡ first + n = omega arith in
      sym step.same ∙ (ap role back ∙ same_role first n (λ v low high. joined v low (omega arith)))

  one_role : (first u v : ℕ) → ((w : ℕ) → first < w → w < u → IsJoined role w) → first ≤ v → v < u → role v ≡ role first
  one_role first u v joined low high =
      let at : v ≡ first + (v - first) = omega arith in
      ap role at ∙ same_role first (v - first) (λ w l h. joined w l (omega arith))

  pub begun : (chunks : List PlannedChunk) → chunks ≡ [] → AreBegun role usable 0 1 chunks
  begun chunks none = subst (AreBegun role usable 0 1) (sym none) (record {
    each = λ k d h. absurd (omega arith);
    ascending = λ i j d l h. absurd (omega arith);
    below = λ k d h. absurd (omega arith);
    whole = λ v r low is. absurd (omega arith);
    within = omega arith;
    joined = λ v low high. absurd (omega arith);
    apart = λ j. j.uncut refl;
  })

  pub goes_on : (first u : ℕ) (chunks : List PlannedChunk) → AreBegun role usable first u chunks → IsJoined role u → AreBegun role usable first (u + 1) chunks
  goes_on first u chunks so_far next = record {
    each = so_far.each;
    ascending = so_far.ascending;
    below = so_far.below;
    whole = so_far.whole;
    within = omega (arith, so_far.within);
    joined = λ v low high. ⊎_elim (λ (same : v ≡ u). subst (IsJoined role) (sym same) next) (λ (other : v ≡ u → ⊥). so_far.joined v low (omega arith)) (cases_eq v u);
    apart = so_far.apart;
  }

  module _ (first u : ℕ) (chunks : List PlannedChunk) (so_far : AreBegun role usable first u chunks) (ends : IsJoined role u → ⊥) where
    within : first < u
    within = so_far.within

    all_one : (v : ℕ) → first ≤ v → v < u → role v ≡ role first
    all_one v low high = one_role first u v so_far.joined low high

    module _ (r : Role) (is : role first ≡ Some r) where
      abbrev c : PlannedChunk
      c = chunk_from usable first u r

      here : 256 * first < usable
      here = inside first r is

      before_is : (first % 1024 ≡ 0) ⊎ ((v : ℕ) → v + 1 ≡ first → role v ≢ Some r)
      before_is =
          ⊎_elim (λ (zeroth : first % 1024 ≡ 0). inl zeroth)
          (λ (other : first % 1024 ≡ 0 → ⊥).
          inr (λ v next same.
          let back : first - 1 ≡ v = omega arith in
          so_far.apart (record {
            uncut = other;
            some = λ none. none_not_some r (sym none ∙ (ap role back ∙ same));
            same = ap role back ∙ (same ∙ sym is);
          })))
          (cases_eq (first % 1024) 0)

      behind_is : (u % 1024 ≡ 0) ⊎ (role u ≢ Some r)
      behind_is =
          ⊎_elim (λ (zeroth : u % 1024 ≡ 0). inl zeroth)
          (λ (other : u % 1024 ≡ 0 → ⊥).
          inr (λ same.
          let last : role (u - 1) ≡ Some r = all_one (u - 1) (omega (arith, within)) (omega (arith, within)) ∙ is in
          ends (record {
            uncut = other;
            some = λ none. none_not_some r (sym none ∙ last);
            same = last ∙ sym same;
          })))
          (cases_eq (u % 1024) 0)

      is_chunk : IsChunk role usable c
      is_chunk = record {
        first = first;
        end = u;
        some = within;
        starts = refl;
        ends = omega (arith, here, within);
        not_empty = omega (arith, here, within);
        one_role = λ v low high. all_one v low high ∙ is;
        uncut = λ v low high. (so_far.joined v low high).uncut;
        before = before_is;
        behind = behind_is;
      }

      holds_unit : (v : ℕ) → first ≤ v → v < u → HoldsUnit c v
      holds_unit v low high =
          let there : 256 * v < usable = inside v r (all_one v low high ∙ is) in
          record { low = omega arith; high = omega (arith, there, here) }

      with_chunk : AreBegun role usable u (u + 1) (chunks ++ c ∷ [])
      with_chunk = record {
        each = All-push (IsChunk role usable) chunks c so_far.each is_chunk;
        ascending = all_pairs_push (λ a b. a.start + a.length ≤ b.start) chunks c so_far.ascending (λ k d h. so_far.below k d h);
        below =
            All-push (λ a. a.start + a.length ≤ 256 * u) chunks c
            (λ k d h. let low : (get_or chunks k d).start + (get_or chunks k d).length ≤ 256 * first = so_far.below k d h in omega (arith, low, within))
            (omega (arith, here, within));
        whole = λ v s low t. ⊎_elim
            (λ (early : v < first). any_more (λ a. HoldsUnit a v) chunks c (so_far.whole v s early t))
            (λ (late : first ≤ v). Any-push (λ a. HoldsUnit a v) chunks c (holds_unit v late low))
            (cases_lt v first);
        within = omega arith;
        joined = λ v low high. absurd (omega arith);
        apart = ends;
      }

    without_chunk : role first ≡ None → AreBegun role usable u (u + 1) chunks
    without_chunk none = record {
      each = so_far.each;
      ascending = so_far.ascending;
      below = λ k d h. let low : (get_or chunks k d).start + (get_or chunks k d).length ≤ 256 * first = so_far.below k d h in omega (arith, low, within);
      whole = λ v s low t. ⊎_elim
          (λ (early : v < first). so_far.whole v s early t)
          (λ (late : first ≤ v). absurd (none_not_some s (sym (all_one v late low ∙ none) ∙ t)))
          (cases_lt v first);
      within = omega arith;
      joined = λ v low high. absurd (omega arith);
      apart = ends;
    }

    pub ended : (new : List PlannedChunk) → IsWithChunk chunks (role first) first u usable new → AreBegun role usable u (u + 1) new
    ended new added =
        ⊎_elim
        (λ some. subst (AreBegun role usable u (u + 1)) (sym (subst (λ o. IsWithChunk chunks o first u usable new) some.1 added)) (with_chunk some.0 some.1))
        (λ none. subst (AreBegun role usable u (u + 1)) (sym (subst (λ o. IsWithChunk chunks o first u usable new) none added)) (without_chunk none))
        (cases_Option (role first))

  pub divided : (first u units : ℕ) (chunks : List PlannedChunk) → AreBegun role usable first u chunks → u ≡ units + 1 → usable ≤ 256 * units → AreChunksBy role usable chunks
  divided first u units chunks so_far end past = record {
    each = so_far.each;
    ascending = so_far.ascending;
    whole = λ v r t.
        let there : 256 * v < usable = inside v r t in
        let low : v < units = omega (arith, there, past) in
        ⊎_elim
        (λ (early : v < first). so_far.whole v r early t)
        (λ (late : first ≤ v).
        let last : IsJoined role units = so_far.joined units (omega arith) (omega arith) in
        absurd (⊎_elim
        (λ some. let over : 256 * units < usable = inside units some.0 some.1 in omega (arith, over, past))
        (λ none. last.some (last.same ∙ none))
        (cases_Option (role units))))
        (cases_lt v first);
  }
