-- The used blocks of a set, one after the other.
use Rattle.rollback_core.proofs.Imports.{◌≡◌, ℕ, ◌+◌, ◌-◌, ◌<◌, ◌≤◌, Bool, true, false, not, ◌&&◌, List, [], ◌∷◌, ◌++◌, length, get_or, map, Contains, All, refl, sym, ◌∙◌, ap, subst, arith, true≢false, range_with_len, and_parts, append-nil, get_or-map, get_or_default, length-map, has, used_blocks, used_had, filter_more_yes, filter_range_none, range_cut, from_filter, in_map, GoApart, Saved}
use Rattle.std.specs.Prelude.{filter}
use Rattle.std.specs.List.Sorted.{IsStrictlyIncreasing}
use Rattle.std.proofs.lemmas.List.Elements.{filter-append}
use Rattle.std.proofs.lemmas.List.Kept.{AllPairs-from_increasing, IsStrictlyIncreasing-filter}
use Rattle.std.proofs.lemmas.List.FromFn.{length-range_with_len, get_or-range_with_len}
use Rattle.reiser_bitmap.specs.Next.{next_used}
use Rattle.reiser_bitmap.proofs.Ends.{IsEnd, end_facts}

-- those before a block
abbrev pub used_below : List Bool → ℕ → List ℕ
used_below used n = filter (has used) (range_with_len 0 n)

pub all_below : (used : List Bool) → used_below used (length used) ≡ used_blocks used
unfolding used_blocks
all_below used = refl

is_free : (t : Bool) → not t ≡ true → t ≡ false
is_free false is = refl
is_free true is = absurd (true≢false (sym is))

is_used : (t : Bool) → not t ≡ false → t ≡ true
is_used true is = refl
is_used false is = absurd (true≢false is)

module _ (used : List Bool) (from end e : ℕ) (order : from ≤ end) (is : e ≡ next_used used from end) where
  facts : IsEnd (λ k. not (has used k)) from end e
  facts = subst (λ (n : ℕ). IsEnd (λ k. not (has used k)) from end n) (sym is) (end_facts (λ k. not (has used k)) from end order)

  pub next_low : from ≤ e
  next_low = facts.low

  pub next_high : e ≤ end
  next_high = facts.high

  pub next_marked : e < end → has used e ≡ true
  next_marked below = is_used (has used e) (facts.stop below)

  -- none between is used
  pub same_below : used_below used e ≡ used_below used from
  same_below =
      ap (filter (has used)) (range_cut 0 from (e - from) e from (omega (arith, facts.low)) (omega arith))
      ∙ (filter-append (has used) (range_with_len 0 from) (range_with_len from (e - from))
      ∙ (ap (λ (bs : List ℕ). used_below used from ++ bs)
      (filter_range_none (has used) from (e - from) (λ b low high. is_free (has used b) (facts.all b low (omega (arith, high, facts.low)))))
      ∙ append-nil (used_below used from)))

-- the next one comes behind the one before
pub more_below : (used : List Bool) (at end next : ℕ) → at < end → has used at ≡ true → next ≡ next_used used (at + 1) end → used_below used next ≡ used_below used at ++ at ∷ []
more_below used at end next inside marked is =
    same_below used (at + 1) end next (omega (arith, inside)) is ∙ filter_more_yes (has used) at marked

-- and what passes a test
module _ (p : ℕ → Bool) (used : List Bool) (at end next : ℕ) (inside : at < end) (marked : has used at ≡ true) (is : next ≡ next_used used (at + 1) end) where
  more_passing : filter p (used_below used next) ≡ filter p (used_below used at) ++ filter p (at ∷ [])
  more_passing = ap (filter p) (more_below used at end next inside marked is) ∙ filter-append p (used_below used at) (at ∷ [])

  pub passing_yes : p at ≡ true → filter p (used_below used next) ≡ filter p (used_below used at) ++ at ∷ []
  passing_yes passes = more_passing ∙ rw passes refl

  pub passing_no : p at ≡ false → filter p (used_below used next) ≡ filter p (used_below used at)
  passing_no fails = more_passing ∙ (rw fails refl ∙ append-nil (filter p (used_below used at)))

-- and what passes two tests
module _ (p q : ℕ → Bool) (used : List Bool) (at end next : ℕ) (inside : at < end) (marked : has used at ≡ true) (is : next ≡ next_used used (at + 1) end) where
  pub both_yes : (q at && p at) ≡ true → filter q (filter p (used_below used next)) ≡ filter q (filter p (used_below used at)) ++ at ∷ []
  both_yes passes =
      let each = and_parts (q at) (p at) passes in
      ap (filter q) (passing_yes p used at end next inside marked is each.1)
      ∙ (filter-append q (filter p (used_below used at)) (at ∷ []) ∙ ap (λ (bs : List ℕ). filter q (filter p (used_below used at)) ++ bs) (rw each.0 refl))

  pub both_no : (q at && p at) ≡ false → filter q (filter p (used_below used next)) ≡ filter q (filter p (used_below used at))
  both_no fails = by (p at) refl
    where
      by : (t : Bool) → p at ≡ t → filter q (filter p (used_below used next)) ≡ filter q (filter p (used_below used at))
      by false first = ap (filter q) (passing_no p used at end next inside marked is first)
      by true first =
          let second : q at ≡ false = other (q at) (p at) first fails in
          ap (filter q) (passing_yes p used at end next inside marked is first)
          ∙ (filter-append q (filter p (used_below used at)) (at ∷ [])
          ∙ (ap (λ (bs : List ℕ). filter q (filter p (used_below used at)) ++ bs) (rw second refl) ∙ append-nil (filter q (filter p (used_below used at)))))
        where
          other : (s t : Bool) → t ≡ true → (s && t) ≡ false → s ≡ false
          other false t passes fails = refl
          other true t passes fails = absurd (true≢false (sym passes ∙ fails))

-- ---- the numbers of saved blocks

range_rises : (a n : ℕ) → IsStrictlyIncreasing (range_with_len a n)
range_rises a n k below =
    let few : k + 1 < n = omega (arith, below, length-range_with_len a n) in
    let here = get_or-range_with_len a n k 0 (omega (arith, few)) in
    let next = get_or-range_with_len a n (k + 1) 0 few in
    omega (arith, here, next)

module _ (p q : ℕ → Bool) (used : List Bool) (saved : List Saved) (numbers : map (λ s. s.at) saved ≡ filter q (filter p (used_blocks used))) where
  rises : IsStrictlyIncreasing (filter q (filter p (used_blocks used)))
  unfolding used_blocks
  rises = IsStrictlyIncreasing-filter q _ (IsStrictlyIncreasing-filter p _ (IsStrictlyIncreasing-filter (has used) _ (range_rises 0 (length used))))

  -- no two are the same
  pub go_apart : GoApart saved
  go_apart i j d order below same =
      let ns : List ℕ = filter q (filter p (used_blocks used)) in
      let long : length ns ≡ length saved = ap length (sym numbers) ∙ length-map saved (λ s. s.at) in
      let less = AllPairs-from_increasing ns rises i j 0 order (omega (arith, below, long)) in
      let first : get_or ns i 0 ≡ (get_or saved i d).at = ap (λ (xs : List ℕ). get_or xs i 0) (sym numbers) ∙ get_or-map (λ s. s.at) saved i d 0 (omega (arith, order, below)) in
      let second : get_or ns j 0 ≡ (get_or saved j d).at = ap (λ (xs : List ℕ). get_or xs j 0) (sym numbers) ∙ get_or-map (λ s. s.at) saved j d 0 below in
      omega (arith, less, first, second, same)

  -- each is marked and passes
  pub each_marked : All (λ s. (has used s.at ≡ true) × ((p s.at ≡ true) × (q s.at ≡ true))) saved
  each_marked k d below =
      let among : Contains saved (get_or saved k d) = (k, below, get_or_default saved k (get_or saved k d) d below) in
      let here : Contains (filter q (filter p (used_blocks used))) (get_or saved k d).at = subst (λ (ns : List ℕ). Contains ns (get_or saved k d).at) numbers (in_map (λ (s : Saved). s.at) saved (get_or saved k d) among) in
      let second = from_filter q (filter p (used_blocks used)) (get_or saved k d).at here in
      let first = from_filter p (used_blocks used) (get_or saved k d).at second.0 in
      ((used_had used (get_or saved k d).at).0 first.0, (first.1, second.1))
