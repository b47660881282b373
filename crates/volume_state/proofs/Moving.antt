-- The next used block.
use Rattle.volume_state.proofs.Imports.{◌≡◌, ⊎_elim, ℕ, ◌+◌, ◌<◌, ◌≤◌, Bool, true, false, not, List, Option, Some, sym, ◌∙◌, ap, subst, arith, true≢false, refl, cases_lt, has, IsOld}
use Rattle.reiser_bitmap.specs.Next.{next_used}
use Rattle.reiser_bitmap.proofs.Ends.{IsEnd, end_facts}

is_used : (t : Bool) → not t ≡ false → t ≡ true
is_used true is = refl
is_used false is = absurd (true≢false is)

module _ (used : List Bool) (from end e : ℕ) (order : from ≤ end) (is : e ≡ next_used used from end) where
  facts : IsEnd (λ k. not (has used k)) from end e
  facts = subst (λ (n : ℕ). IsEnd (λ k. not (has used k)) from end n) (sym is) (end_facts (λ k. not (has used k)) from end order)

  pub next_low : from ≤ e
  next_low = facts.low

  pub next_high : e ≤ end
  next_high = facts.high

  pub next_marked : e < end → has used e ≡ true
  next_marked below = is_used (has used e) (facts.stop below)

  -- none between is used
  pub none_between : (b : ℕ) → from ≤ b → b < e → has used b ≡ true → ⊥
  none_between b low below marked = true≢false (sym (facts.all b low below) ∙ ap not marked)

-- all used blocks before the next one are in their places
pub placed_next : (place : ℕ → Option ℕ) (used : List Bool) (block end next : ℕ) → block < end → next ≡ next_used used (block + 1) end
    → ((b : ℕ) → IsOld used b → b < block → place b ≡ Some b) → (IsOld used block → place block ≡ Some block) → (b : ℕ) → IsOld used b → b < next → place b ≡ Some b
placed_next place used block end next inside is before here b old below =
    ⊎_elim (λ (early : b < block). before b old early)
    (λ (least : block ≤ b). ⊎_elim
    (λ (more : block < b). absurd (none_between used (block + 1) end next (omega (arith, inside)) is b (omega (arith, more)) below old.marked))
    (λ (most : b ≤ block). let same : block ≡ b = omega (arith, least, most) in subst (λ (n : ℕ). place n ≡ Some n) same (here (subst (IsOld used) (sym same) old)))
    (cases_lt block b)) (cases_lt b block)
