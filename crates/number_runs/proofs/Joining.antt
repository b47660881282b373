-- The loop that joins neighbours.
use Rattle.number_runs.proofs.Imports.{◌≡◌, ◌≤◌, ◌<◌, ℕ, ◌+◌, ◌-◌, max, Bool, ◌||◌, List, [], ◌∷◌, ◌++◌, length, get_or, set, take, drop, refl, sym, ap, ◌∙◌, subst, arith, add-zero, length-take-le, All, IsNonDecreasingBy, append-nil, get_or-drop, drop-drop, drop_all, drop-set-lt, get_or_default, take-take, take_more_set, list_any_more, AreParted, EndsBelow, HasNumbers, first_of, is_among, is_in, Run}
use Rattle.number_runs.proofs.Sets.{IsPartedBefore, among_push, below_push, in_joined, or_assoc, parted_before, parted_push}

-- Of these runs the first i are joined: some stand in front, and one is in hand.
pub record IsJoined (before runs : List Run) (joined : Run) (kept i : ℕ) : Type 0 where
  pub within : kept < i
  pub rest : drop i runs ≡ drop i before
  pub same : (n : ℕ) → is_among (take kept runs ++ joined ∷ []) n ≡ is_among (take i before) n
  pub parted : AreParted (take kept runs ++ joined ∷ [])
  pub first : (d : Run) → joined.first ≤ (get_or before (i - 1) d).first

at_same : (i : ℕ) (runs before : List Run) (d : Run) → drop i runs ≡ drop i before → get_or runs i d ≡ get_or before i d
at_same i runs before d e =
    let a : get_or (drop i runs) 0 d ≡ get_or runs (i + 0) d = get_or-drop i runs 0 d in
    let b : get_or (drop i before) 0 d ≡ get_or before (i + 0) d = get_or-drop i before 0 d in
    let z : i + 0 ≡ i = add-zero i in
    let f : get_or (drop i runs) 0 d ≡ get_or (drop i before) 0 d = ap (λ l. get_or l 0 d) e in
    cc

rest_same : (i : ℕ) (runs before : List Run) → drop i runs ≡ drop i before → drop (i + 1) runs ≡ drop (i + 1) before
rest_same i runs before e = sym (drop-drop 1 i runs) ∙ (ap (drop 1) e ∙ drop-drop 1 i before)

pub join_step : (before runs : List Run) (joined d : Run) (last kept i : ℕ) → i < length before → IsNonDecreasingBy first_of before
    → IsJoined before runs joined kept i → (get_or runs i d).first ≤ joined.last + 1 → last ≡ max joined.last (get_or runs i d).last
    → IsJoined before runs (record { first = joined.first; last = last }) kept (i + 1)
join_step before runs joined d last kept i low ascending is touch greater =
    let x : Run = get_or before i d in
    let here : get_or runs i d ≡ x = at_same i runs before d is.rest in
    let k : kept < i = is.within in
    let up : joined.first ≤ x.first = omega (arith, is.first d, ascending (i - 1) i d (omega (arith, k)) low) in
    let near : x.first ≤ joined.last + 1 = subst (λ r. r.first ≤ joined.last + 1) here touch in
    let m : Run = record { first = joined.first; last = last } in
    let top : last ≡ max joined.last x.last = greater ∙ ap (λ r. max joined.last r.last) here in
    let b = parted_before (take kept runs) joined is.parted in
    let own : HasNumbers joined = b.some in
    record {
      within = omega (arith, k);
      rest = rest_same i runs before is.rest;
      same = λ n.
          among_push (take kept runs) m n
          ∙ (ap (λ v. is_among (take kept runs) n || v) (in_joined joined x last n up near top)
          ∙ (or_assoc (is_among (take kept runs) n) (is_in joined n) (is_in x n)
          ∙ (ap (λ v. v || is_in x n) (sym (among_push (take kept runs) joined n) ∙ is.same n)
          ∙ sym (list_any_more (λ r. is_in r n) before i d low))));
      parted = parted_push (take kept runs) m (record { parted = b.parted; some = omega (arith, own, top); below = b.below });
      first = λ e. let same : i + 1 - 1 ≡ i = omega arith in rw same (omega (arith, is.first e, ascending (i - 1) i e (omega (arith, k)) low));
    }

pub part_step : (before runs : List Run) (joined d : Run) (kept i : ℕ) → i < length before → length runs ≡ length before → All HasNumbers before
    → IsJoined before runs joined kept i → ((get_or runs i d).first ≤ joined.last + 1 → ⊥)
    → IsJoined before (set runs kept joined) (get_or runs i d) (kept + 1) (i + 1)
part_step before runs joined d kept i low long some is apart =
    let x : Run = get_or runs i d in
    let here : x ≡ get_or before i d = at_same i runs before d is.rest in
    let k : kept < i = is.within in
    let front : take (kept + 1) (set runs kept joined) ≡ take kept runs ++ joined ∷ [] = take_more_set runs kept joined (omega (arith, k, low, long)) in
    let b = parted_before (take kept runs) joined is.parted in
    let one : HasNumbers x = subst HasNumbers (sym here) (some i d low) in
    record {
      within = omega (arith, k);
      rest = drop-set-lt (i + 1) runs kept joined (omega (arith, k)) ∙ rest_same i runs before is.rest;
      same = λ n.
          among_push (take (kept + 1) (set runs kept joined)) x n
          ∙ (ap (λ l. is_among l n || is_in x n) front
          ∙ (ap (λ v. v || is_in x n) (is.same n)
          ∙ (ap (λ r. is_among (take i before) n || is_in r n) here ∙ sym (list_any_more (λ r. is_in r n) before i d low))));
      parted = parted_push (take (kept + 1) (set runs kept joined)) x (record { parted = subst AreParted (sym front) is.parted; some = one; below = subst (All (λ s. EndsBelow s x)) (sym front) (below_push (take kept runs) joined x b (omega (arith, apart))) });
      first = λ e.
          let same : i + 1 - 1 ≡ i = omega arith in
          let at : get_or before i e ≡ x = get_or_default before i e d low ∙ sym here in
          rw same (subst (λ r. x.first ≤ r.first) (sym at) (omega arith));
    }

-- what is left in front of a list that was written as a slice
pub front_of : (kept len : ℕ) (new old : List Run) → length new ≡ length old → kept ≤ len → take kept (take len (new ++ drop (length new) old)) ≡ take kept new
front_of kept len new old same low =
    take-take kept len (new ++ drop (length new) old) low ∙ (ap (λ l. take kept (new ++ l)) (drop_all (length new) old (omega (arith, same))) ∙ ap (take kept) (append-nil new))
