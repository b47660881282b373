-- Checksums that are met, one more, or judged.
use Rattle.btr_check_sums.proofs.Imports.{◌≡◌, ◌≤◌, ◌<◌, ◌+◌, ◌/◌, ◌^◌, ℕ, List, [], ◌∷◌, ◌++◌, Some, None, inl, inr, sym, ap, subst, ◌∙◌, ⊎_elim, arith, below_more, All-contains, All-nil, All-push, All-weaker, Contains-append_left, Contains-push, Contains-push_cases, All, Contains, sum_count, Item, place, MapRange, SumKind, Image, block_at, AreMet, BreaksSums, HasWrongSum, HoldsDue, HoldsFirst, IsDueOf, IsMet, IsRight, IsWrongDue, due_sum, sum_address, sum_of, told_sum, DueSum}

module _ (image : Image) (ranges : List MapRange) (sums : SumKind) where
  -- what was due is right
  judged : (due : List DueSum) → All (IsRight image sums) due → (i : Item) (k : ℕ) → IsMet image ranges sums due i k → IsMet image ranges sums [] i k
  judged due right i k met = λ at small is.
      ⊎_elim
      (λ (told : told_sum sums i k ≡ sum_of sums (block_at image (at / 4096))). inl told)
      (λ (held : (d : DueSum) × Contains due d × (due_sum sums d ≡ told_sum sums i k) × (d.block ≡ at / 4096)).
      inl (sym held.2 ∙ (All-contains (IsRight image sums) due held.0 right held.1 ∙ ap (λ (b : ℕ). sum_of sums (block_at image b)) held.3)))
      (met at small is)

  pub first_judged : (items : List Item) (i : Item) (count : ℕ) (due after : List DueSum) → All (IsRight image sums) due → after ≡ [] → HoldsFirst image ranges sums items i count due
      → HoldsFirst image ranges sums items i count after
  first_judged items i count due after right none holds =
      subst (HoldsFirst image ranges sums items i count) (sym none)
      (record {
        told = All-nil (IsDueOf ranges sums (items ++ i ∷ []));
        met = λ j has k low. judged due right j k (holds.met j has k low);
        first = λ k low. judged due right i k (holds.first k low);
      })

  pub all_judged : (items : List Item) (due : List DueSum) → All (IsRight image sums) due → HoldsDue image ranges sums items due → AreMet image ranges sums [] items
  all_judged items due right holds = λ j has k low. judged due right j k (holds.met j has k low)

  -- what is due and wrong is a wrong checksum of an item
  pub wrong_told : (items : List Item) (due : List DueSum) → All (IsDueOf ranges sums items) due → (part a : ℕ) → IsWrongDue image sums due part a → BreaksSums image ranges sums items part a
  wrong_told items due told part a breaks =
      let d : DueSum = breaks.0 in
      let of : IsDueOf ranges sums items d = All-contains (IsDueOf ranges sums items) due d told breaks.1 in
      let address : d.address ≡ a = breaks.2.1 in (
        breaks.2.0,
        record {
          item = of.item;
          there = of.there;
          number = of.number;
          counted = of.counted;
          address = of.address ∙ address;
          at = of.at;
          place_is = subst (λ (x : ℕ). place ranges x ≡ Some of.at) address of.place_is;
          wrong = λ same. breaks.2.2 (of.sum_is ∙ (same ∙ ap (λ (b : ℕ). sum_of sums (block_at image b)) (sym of.block_is)));
        },
      )

  -- one more is due
  wider : (due : List DueSum) (d : DueSum) (i : Item) (k : ℕ) → IsMet image ranges sums due i k → IsMet image ranges sums (due ++ d ∷ []) i k
  wider due d i k met = λ at small is.
      ⊎_elim
      (λ (told : told_sum sums i k ≡ sum_of sums (block_at image (at / 4096))). inl told)
      (λ (held : (e : DueSum) × Contains due e × (due_sum sums e ≡ told_sum sums i k) × (e.block ≡ at / 4096)).
      inr (held.0, Contains-append_left due (d ∷ []) held.0 held.1, held.2, held.3))
      (met at small is)

  same_place : (at other : ℕ) (a : ℕ) → place ranges a ≡ Some at → place ranges a ≡ Some other → at ≡ other
  same_place at other a is too = cc

  pub due_more : (items : List Item) (i : Item) (k : ℕ) (due : List DueSum) (d : DueSum) (at : ℕ) → HoldsFirst image ranges sums items i k due → k < sum_count sums i
      → sum_address i k ≡ d.address → place ranges (sum_address i k) ≡ Some at → d.block ≡ at / 4096 → due_sum sums d ≡ told_sum sums i k
      → HoldsFirst image ranges sums items i (k + 1) (due ++ d ∷ [])
  due_more items i k due d at holds counted address place_is block sum = record {
    told = All-push (IsDueOf ranges sums (items ++ i ∷ [])) due d holds.told (record {
      item = i;
      there = Contains-push items i;
      number = k;
      counted = counted;
      address = address;
      at = at;
      place_is = subst (λ (x : ℕ). place ranges x ≡ Some at) address place_is;
      block_is = block;
      sum_is = sum;
    });
    met = λ j has m low. wider due d j m (holds.met j has m low);
    first = below_more (λ (m : ℕ). IsMet image ranges sums (due ++ d ∷ []) i m) k (λ m low. wider due d i m (holds.first m low))
        (λ other small is. inr (d, Contains-push due d, sum, block ∙ ap (λ (n : ℕ). n / 4096) (same_place at other (sum_address i k) place_is is)));
  }

  -- one has no place, or an address that is too high
  pub none_more : (items : List Item) (i : Item) (k : ℕ) (due : List DueSum) → HoldsFirst image ranges sums items i k due → place ranges (sum_address i k) ≡ None
      → HoldsFirst image ranges sums items i (k + 1) due
  none_more items i k due holds none = record {
    told = holds.told;
    met = holds.met;
    first = below_more (λ (m : ℕ). IsMet image ranges sums due i m) k holds.first (λ at small is. absurd cc);
  }

  pub far_more : (items : List Item) (i : Item) (k : ℕ) (due : List DueSum) → HoldsFirst image ranges sums items i k due → 2 ^ 64 ≤ sum_address i k
      → HoldsFirst image ranges sums items i (k + 1) due
  far_more items i k due holds far = record {
    told = holds.told;
    met = holds.met;
    first = below_more (λ (m : ℕ). IsMet image ranges sums due i m) k holds.first (λ at small is. absurd (omega (arith, far, small)));
  }

  -- before the first checksum of an item, and behind its last
  more_items : (items : List Item) (i : Item) (d : DueSum) → IsDueOf ranges sums items d → IsDueOf ranges sums (items ++ i ∷ []) d
  more_items items i d of = record {
    item = of.item;
    there = Contains-append_left items (i ∷ []) of.item of.there;
    number = of.number;
    counted = of.counted;
    address = of.address;
    at = of.at;
    place_is = of.place_is;
    block_is = of.block_is;
    sum_is = of.sum_is;
  }

  pub item_begins : (items : List Item) (i : Item) (due : List DueSum) → HoldsDue image ranges sums items due → HoldsFirst image ranges sums items i 0 due
  item_begins items i due holds = record {
    told = All-weaker (IsDueOf ranges sums items) (IsDueOf ranges sums (items ++ i ∷ [])) (λ d of. more_items items i d of) due holds.told;
    met = holds.met;
    first = λ k low. absurd (omega (arith, low));
  }

  pub item_ends : (items : List Item) (i : Item) (count : ℕ) (due : List DueSum) → HoldsFirst image ranges sums items i count due → sum_count sums i ≤ count
      → HoldsDue image ranges sums (items ++ i ∷ []) due
  item_ends items i count due holds all = record {
    told = holds.told;
    met = λ j has k low.
        ⊎_elim
        (λ (before : Contains items j). holds.met j before k low)
        (λ (same : i ≡ j).
        let counted : k < sum_count sums i = subst (λ (x : Item). k < sum_count sums x) (sym same) low in
        subst (λ (x : Item). IsMet image ranges sums due x k) same (holds.first k (omega (arith, counted, all))))
        (Contains-push_cases items i j has);
  }

  -- what is wrong with first items is wrong with all
  pub breaks_all : (items more : List Item) (part a : ℕ) → BreaksSums image ranges sums items part a → BreaksSums image ranges sums (items ++ more) part a
  breaks_all items more part a breaks =
      let wrong : HasWrongSum image ranges sums items a = breaks.1 in (
        breaks.0,
        record {
          item = wrong.item;
          there = Contains-append_left items more wrong.item wrong.there;
          number = wrong.number;
          counted = wrong.counted;
          address = wrong.address;
          at = wrong.at;
          place_is = wrong.place_is;
          wrong = wrong.wrong;
        },
      )
