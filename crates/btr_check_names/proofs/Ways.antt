-- Ways up from directories.
use Rattle.btr_check_names.proofs.Imports.{◌≡◌, ◌≢◌, ◌≤◌, ◌<◌, ◌⊎◌, inl, inr, ⊎_elim, ℕ, ◌+◌, ◌==◌, Bool, cond, List, [], ◌∷◌, ◌++◌, length, take, drop, get_or, Option, Some, None, refl, sym, ap, ◌∙◌, subst, arith, IfSome, All, replicate, set, cases_eq, ne_eqb, append-nil, drop_all, take_all, get_or-replicate, get_or-set_other, get_or-set_same, sum_by-set, slice_get-get_or, count_by, slice_get, AreEnded, AreOnWay, Ends, IsBegun, IsPlace, Leads, top, under, one, more}
use Rattle.std.proofs.lemmas.Bool.{eq-eqb}

same_some : {A : Type 0} (x y : A) → Some x ≡ Some y → x ≡ y
same_some x y is = cc

none_some : {A : Type 0} {B : Type 0} (x : A) → None ≡ Some x → B
none_some x is = absurd (cc)

module _ (above : List (Option ℕ)) where
  -- one step more
  pub leads_on : (i : ℕ) (p : Option ℕ) (j : ℕ) (o : Option ℕ) → Leads above i p → p ≡ Some j → slice_get above j ≡ Some o → Leads above i o
  leads_on _ _ j o (one i p is) same next = more i j o (is ∙ ap (λ (q : Option ℕ). Some q) same) (one j o next)
  leads_on _ _ j o (more i k p is rest) same next = more i k o is (leads_on k p j o rest same next)

  pub ends_none : (i : ℕ) (p : Option ℕ) → Leads above i p → p ≡ None → Ends above i
  ends_none _ _ (one i p is) none = top i (is ∙ ap (λ (q : Option ℕ). Some q) none)
  ends_none _ _ (more i j p is rest) none = under i j is (ends_none j p rest none)

  pub ends_there : (i : ℕ) (p : Option ℕ) (j : ℕ) → Leads above i p → p ≡ Some j → Ends above j → Ends above i
  ends_there _ _ j (one i p is) same ends = under i j (is ∙ ap (λ (q : Option ℕ). Some q) same) ends
  ends_there _ _ j (more i k p is rest) same ends = under i k is (ends_there k p j rest same ends)

  first_step : (i : ℕ) (p : Option ℕ) → Leads above i p → (q : Option ℕ) × (slice_get above i ≡ Some q) × ((p ≡ q) ⊎ ((j : ℕ) × (q ≡ Some j) × Leads above j p))
  first_step _ _ (one i p is) = (p, is, inl refl)
  first_step _ _ (more i j p is rest) = (Some j, is, inr (j, refl, rest))

  -- no way that leads back ends
  pub never_ends : (i : ℕ) (p : Option ℕ) → Ends above i → Leads above i p → p ≡ Some i → ⊥
  never_ends _ p (top i none) leads same =
      let step = first_step i p leads in
      let nowhere : None ≡ step.0 = same_some None step.0 (sym none ∙ step.1) in
      ⊎_elim (λ is. none_some i (nowhere ∙ (sym is ∙ same))) (λ later. none_some later.0 (nowhere ∙ later.1)) step.2
  never_ends _ p (under i j up ends) leads same =
      let step = first_step i p leads in
      let there : Some j ≡ step.0 = same_some (Some j) step.0 (sym up ∙ step.1) in
      ⊎_elim (λ is. let itself : i ≡ j = same_some i j (sym same ∙ (is ∙ sym there)) in never_ends j p ends (subst (λ (k : ℕ). Leads above k p) itself leads) (same ∙ ap (λ (k : ℕ). Some k) itself))
      (λ later. let next : later.0 ≡ j = same_some later.0 j (sym later.1 ∙ sym there) in never_ends j (Some j) ends (subst (λ (k : ℕ). Leads above k (Some j)) next (leads_on later.0 p i (Some j) later.2 same up)) refl)
      step.2

-- ---- steps of the walk

-- a place of the list, one of a way
pub place_above : (above : List (Option ℕ)) (i : ℕ) (o d : Option ℕ) → All (IsPlace (length above)) above → i < length above → o ≡ get_or above i d → IsPlace (length above) o
place_above above i o d all within is = subst (IsPlace (length above)) (sym is) (all i d within)

module _ (above : List (Option ℕ)) (met : List ℕ) (start i : ℕ) (long : length met ≡ length above) (within : i < length above) where
  step_there : (o d : Option ℕ) → o ≡ get_or above i d → slice_get above i ≡ Some o
  step_there o d is = slice_get-get_or above i d within ∙ ap (λ (q : Option ℕ). Some q) (sym is)

  -- one more on the way
  pub on_more : (o d : Option ℕ) → o ≡ get_or above i d → get_or met i 0 ≡ 0 → AreOnWay above met start (Some i) → AreOnWay above (set met i (start + 1)) start o
  on_more o d is fresh on k inside some = ⊎_elim here there (cases_eq k i)
    where
      here : k ≡ i → ((get_or (set met i (start + 1)) k 0 ≤ start) × Ends above k) ⊎ ((get_or (set met i (start + 1)) k 0 ≡ start + 1) × Leads above k o)
      here same = inr (ap (λ (n : ℕ). get_or (set met i (start + 1)) n 0) same ∙ get_or-set_same met i (start + 1) 0 (omega arith), subst (λ (n : ℕ). Leads above n o) (sym same) (one i o (step_there o d is)))

      there : (k ≡ i → ⊥) → ((get_or (set met i (start + 1)) k 0 ≤ start) × Ends above k) ⊎ ((get_or (set met i (start + 1)) k 0 ≡ start + 1) × Leads above k o)
      there apart =
          let same : get_or (set met i (start + 1)) k 0 ≡ get_or met k 0 = get_or-set_other met i k (start + 1) 0 apart in
          ⊎_elim (λ ended. inl (omega (arith, same, ended.0), ended.1)) (λ way. inr (same ∙ way.0, leads_on above k (Some i) i o way.1 refl (step_there o d is))) (on k inside (λ none. some (same ∙ none)))

  pub begun_more : (o : Option ℕ) → IsBegun met start (Some i) → IsBegun (set met i (start + 1)) start o
  begun_more o begun = inr (λ none. ⊎_elim (λ is. now (same_some i start is) none) (λ some. still (cases_eq start i) some none) begun)
    where
      now : i ≡ start → get_or (set met i (start + 1)) start 0 ≡ 0 → ⊥
      now is none = let at = ap (λ (n : ℕ). get_or (set met i (start + 1)) n 0) (sym is) ∙ get_or-set_same met i (start + 1) 0 (omega arith) in omega arith

      still : (start ≡ i) ⊎ (start ≡ i → ⊥) → get_or met start 0 ≢ 0 → get_or (set met i (start + 1)) start 0 ≡ 0 → ⊥
      still (inl is) some none = now (sym is) none
      still (inr apart) some none = some (sym (get_or-set_other met i start (start + 1) 0 apart) ∙ none)

  pub kept_more : (k : ℕ) → get_or met k 0 ≢ 0 → get_or (set met i (start + 1)) k 0 ≢ 0
  kept_more k some none = ⊎_elim (λ is. let at = ap (λ (n : ℕ). get_or (set met i (start + 1)) n 0) is ∙ get_or-set_same met i (start + 1) 0 (omega arith) in omega arith)
      (λ apart. some (sym (get_or-set_other met i k (start + 1) 0 apart) ∙ none)) (cases_eq k i)

  pub fewer : get_or met i 0 ≡ 0 → count_by (λ m. m == 0) (set met i (start + 1)) < count_by (λ m. m == 0) met
  fewer fresh =
      let sum = sum_by-set (λ m. cond (m == 0) 1 0) met i (start + 1) 0 (omega arith) in
      let before : ◌≡◌ {A = ℕ} (cond (get_or met i 0 == 0) 1 0) 1 = ap (λ (b : Bool). cond b 1 0) (eq-eqb (get_or met i 0) 0 fresh) in
      let after : ◌≡◌ {A = ℕ} (cond (start + 1 == 0) 1 0) 0 = ap (λ (b : Bool). cond b 1 0) (ne_eqb (start + 1) 0 (λ is. omega arith)) in
      omega (arith, sum, before, after)

  -- the way comes to one that was met on it
  pub is_ring : get_or met i 0 ≡ start + 1 → AreOnWay above met start (Some i) → ¬ Ends above i
  is_ring again on ends = ⊎_elim (λ ended. absurd (omega (arith, ended.0))) (λ way. never_ends above i (Some i) ends way.1 refl) (on i within (λ none. omega arith))

  -- the way comes to one that was met before
  pub all_end : get_or met i 0 ≢ 0 → get_or met i 0 ≢ start + 1 → AreOnWay above met start (Some i) → AreEnded above met (start + 1)
  all_end some other on k inside is =
      let ends : Ends above i = ⊎_elim (λ ended. ended.1) (λ way. absurd (other way.0)) (on i within some) in
      ⊎_elim (λ ended. (omega (arith, ended.0), ended.1)) (λ way. (omega (arith, way.0), ends_there above k (Some i) i way.1 refl ends)) (on k inside is)

  pub begun_here : get_or met i 0 ≢ 0 → IsBegun met start (Some i) → get_or met start 0 ≢ 0
  begun_here some begun = ⊎_elim (λ is. subst (λ (n : ℕ). get_or met n 0 ≢ 0) (same_some i start is) some) (λ other. other) begun

-- the way comes to the top
pub top_ends : (above : List (Option ℕ)) (met : List ℕ) (start : ℕ) (at : Option ℕ) → at ≡ None → AreOnWay above met start at → AreEnded above met (start + 1)
top_ends above met start at none on k inside is = ⊎_elim (λ ended. (omega (arith, ended.0), ended.1)) (λ way. (omega (arith, way.0), ends_none above k at way.1 none)) (on k inside is)

pub top_begun : (met : List ℕ) (start : ℕ) (at : Option ℕ) → at ≡ None → IsBegun met start at → get_or met start 0 ≢ 0
top_begun met start at none begun = ⊎_elim (λ is. none_some start (sym none ∙ is)) (λ some. some) begun

-- where a way begins, nothing is on it
pub on_first : (above : List (Option ℕ)) (met : List ℕ) (start : ℕ) (at : Option ℕ) → AreEnded above met start → AreOnWay above met start at
on_first above met start at ended k inside is = inl (ended k inside is)

-- before the first way nothing is met
pub none_ended : (above : List (Option ℕ)) (count ways : ℕ) → count ≡ length above → AreEnded above (replicate count 0) ways
none_ended above count ways long k inside some = absurd (some (get_or-replicate count k 0 0 (omega arith)))

-- what a slice of all of a list gives back
pub given_back : (given items : List ℕ) (count : ℕ) → count ≡ length items → length given ≡ length items → take count (given ++ drop (length given) items) ≡ given
given_back given items count all long =
    ap (λ (l : List ℕ). take count (given ++ l)) (drop_all (length given) items (omega arith)) ∙ (ap (take count) (append-nil given) ∙ take_all count given (omega arith))
