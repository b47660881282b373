-- The piece that holds a block, found by halves.
use Rattle.btr_reader.proofs.Imports.{◌≡◌, ℕ, zero, suc, ◌+◌, ◌-◌, ◌*◌, ◌/◌, ◌<◌, ◌≤◌, Bool, true, false, List, [], ◌∷◌, length, get_or, Option, Some, None, if◌then◌else◌, leb, ⊎_elim, refl, ap, ◌∙◌, arith, option_map, cases_lt, nat_tests, IsPartitionedBy-leb, MapRange, place, MappedExtent, holds_block, block_in, or_else, pieces_place}
use Rattle.btr_reader.specs.Ascending.{IsExtentBefore, AscendApart}
use Rattle.std.specs.List.Sorted.{IsPartitionedBy, IsPartitionPoint, IsNonDecreasingBy}

rises : (ps : List MappedExtent) → AscendApart ps → IsNonDecreasingBy (λ (p : MappedExtent). p.first) ps
rises ps apart i j d ordered within =
    ⊎_elim (λ before. omega (arith, apart i j d before within))
    (λ not_before. let same : i ≡ j = omega (arith, ordered, not_before) in omega (arith, ap (λ (k : ℕ). (get_or ps k d).first) same)) (cases_lt i j)

-- the pieces that begin at a block or before come first
pub begun_first : (ps : List MappedExtent) (b : ℕ) → AscendApart ps → IsPartitionedBy (λ (p : MappedExtent). leb p.first b) ps
begun_first ps b apart = IsPartitionedBy-leb (λ (p : MappedExtent). p.first) ps b (rises ps apart)

module _ (ranges : List MapRange) (b : ℕ) where
  not_held : (p : MappedExtent) → holds_block p b ≡ false → block_in ranges p b ≡ None
  not_held p no_ = ap (λ (t : Bool). if t then option_map (λ a. a / 4096) (place ranges (p.disk + p.offset + 4096 * (b - p.first))) else None) no_

  none_holds : (ps : List MappedExtent) → ((k : ℕ) (d : MappedExtent) → k < length ps → holds_block (get_or ps k d) b ≡ false) → pieces_place ranges ps b ≡ None
  none_holds [] none = refl
  none_holds (p ∷ ps) none =
      ap (λ (o : Option ℕ). or_else o (pieces_place ranges ps b)) (not_held p (none 0 p (omega arith))) ∙ none_holds ps (λ k d within. none (suc k) d (omega (arith, within)))

  or_none : (o : Option ℕ) → or_else o None ≡ o
  or_none None = refl
  or_none (Some n) = refl

  only_at : (ps : List MappedExtent) (j : ℕ) (d : MappedExtent) → j < length ps → ((k : ℕ) (e : MappedExtent) → k < length ps → ¬ (k ≡ j) → holds_block (get_or ps k e) b ≡ false) → pieces_place ranges ps b ≡ block_in ranges (get_or ps j d) b
  only_at [] j d within none = absurd (omega (arith, within))
  only_at (p ∷ ps) zero d within none =
      ap (or_else (block_in ranges p b)) (none_holds ps (λ k e here. none (suc k) e (omega (arith, here)) (λ is. absurd (omega (arith, is))))) ∙ or_none (block_in ranges p b)
  only_at (p ∷ ps) (suc j) d within none =
      ap (λ (o : Option ℕ). or_else o (pieces_place ranges ps b)) (not_held p (none 0 p (omega arith) (λ is. absurd (omega (arith, is)))))
      ∙ only_at ps j d (omega (arith, within)) (λ k e here other. none (suc k) e (omega (arith, here)) (λ is. other (omega (arith, is))))

  ended : (p q : MappedExtent) → IsExtentBefore p q → leb q.first b ≡ true → holds_block p b ≡ false
  ended p q before begun = grind (arith, nat_tests, before, begun)

  not_begun : (p : MappedExtent) → leb p.first b ≡ false → holds_block p b ≡ false
  not_begun p later = grind (arith, nat_tests, later)

  module _ (ps : List MappedExtent) (i : ℕ) (parts : IsPartitionPoint (λ (p : MappedExtent). leb p.first b ≡ true) (λ (p : MappedExtent). leb p.first b ≡ false) ps i) where
    pub none_begun : i ≡ 0 → pieces_place ranges ps b ≡ None
    none_begun is = none_holds ps (λ k d within. not_begun (get_or ps k d) (parts.1 k d (omega (arith, is)) within))

    pub last_begun : (j : ℕ) (d : MappedExtent) → AscendApart ps → j + 1 ≡ i → i ≤ length ps → pieces_place ranges ps b ≡ block_in ranges (get_or ps j d) b
    last_begun j d apart is within =
        only_at ps j d (omega (arith, is, within))
        (λ k e here other. ⊎_elim
        (λ before. ended (get_or ps k e) (get_or ps j e) (apart k j e before (omega (arith, is, within))) (parts.0 j e (omega arith) (omega (arith, is))))
        (λ not_before. not_begun (get_or ps k e) (parts.1 k e (omega (arith, is, not_before, other)) here)) (cases_lt k j))
