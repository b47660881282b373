-- Checksums are those of the blocks of the pieces alone.
use Rattle.convert_core.proofs.Imports.{◌≡◌, ◌∙◌, ℕ, zero, suc, ◌+◌, ◌-◌, ◌*◌, ◌^◌, ◌<◌, ◌≤◌, min, List, [], ◌∷◌, ◌++◌, map, take, refl, ap, arith, Contains, flat_map, range_with_len, EXTENT_CSUM_OBJECTID, Image, block_at, Item, contains_head, contains_tail, Piece}
use Rattle.std.specs.Int.{div_ceil}
use Rattle.std.proofs.Math.Nat.{min-le_right}
use Rattle.btr_tree_writer.specs.btrfs_format.declared.key.TheConstants.{EXTENT_CSUM}
use Rattle.unit_plan.specs.btr_keys.Key.{make_key}
use Rattle.unit_plan.specs.csum_kinds.Kind.{kind_sum, kind_width}
use Rattle.unit_plan.specs.csum_kinds.declared.kind.SumKind.{SumKind}
use Rattle.convert_steps.specs.space_items.Sums.{block_sum, run_items, sum_items, sums_item}
use Rattle.unit_plan.specs.Sums.{sums_in_item}

map_same : {X : Type 0} (f g : ℕ → X) (a n : ℕ) → ((k : ℕ) → a ≤ k → k < a + n → g k ≡ f k) → map g (range_with_len a n) ≡ map f (range_with_len a n)
map_same f g a zero same = refl
map_same f g a (suc n) same =
    ap (λ y. y ∷ map g (range_with_len (a + 1) n)) (same a (omega arith) (omega arith))
    ∙ ap (λ ys. f a ∷ ys) (map_same f g (a + 1) n (λ k low high. same k (omega (arith, low)) (omega (arith, high))))

flat_same : {X : Type 0} (f g : ℕ → List X) (a n : ℕ) → ((k : ℕ) → a ≤ k → k < a + n → g k ≡ f k) → flat_map g (range_with_len a n) ≡ flat_map f (range_with_len a n)
flat_same f g a zero same = refl
flat_same f g a (suc n) same =
    ap (λ y. y ++ flat_map g (range_with_len (a + 1) n)) (same a (omega arith) (omega arith))
    ∙ ap (λ ys. f a ++ ys) (flat_same f g (a + 1) n (λ k low high. same k (omega (arith, low)) (omega (arith, high))))

within : (first count skip some b : ℕ) → some ≤ count - skip → first + skip ≤ b → b < (first + skip) + some → b < first + count
within first count skip some b few low high = omega (arith, few, low, high)

module _ (sums : SumKind) (image other : Image) where
  -- these blocks are the same
  abbrev pub Same : ℕ → ℕ → Type 0
  Same first count = (b : ℕ) → first ≤ b → b < first + count → block_at other b ≡ block_at image b

  item_same : (first count : ℕ) → Same first count → sums_item sums other first count ≡ sums_item sums image first count
  item_same first count same =
      ap (λ (body : List ℕ). (make_key EXTENT_CSUM_OBJECTID EXTENT_CSUM (4096 * first), body))
      (flat_same (block_sum sums image) (block_sum sums other) first count (λ b low high. ap (λ (bytes : List ℕ). take (kind_width sums) (kind_sum sums bytes)) (same b low high)))

  run_same : (first count : ℕ) → Same first count → run_items sums other first count ≡ run_items sums image first count
  run_same first count same =
      let n : ℕ = sums_in_item sums in
      map_same (λ i. sums_item sums image (first + n * i) (min n (count - n * i))) (λ i. sums_item sums other (first + n * i) (min n (count - n * i))) 0 (div_ceil count n)
      (λ i low high. item_same (first + n * i) (min n (count - n * i))
      (λ b from to. same b (omega (arith, from)) (within first count (n * i) (min n (count - n * i)) b (min-le_right n (count - n * i)) from to)))

  pub sums_same : (pieces : List Piece) → ((p : Piece) → Contains pieces p → Same p.place p.count) → sum_items sums other pieces ≡ sum_items sums image pieces
  sums_same [] each = refl
  sums_same (p ∷ pieces) each =
      ap (λ (items : List Item). items ++ sum_items sums other pieces) (run_same p.place p.count (each p (contains_head p pieces)))
      ∙ ap (λ (items : List Item). run_items sums image p.place p.count ++ items) (sums_same pieces (λ q h. each q (contains_tail q p pieces h)))
