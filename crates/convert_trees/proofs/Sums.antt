-- The checksums of pieces, over a disk whose other blocks are written.
use Rattle.convert_trees.proofs.Imports.{◌≡◌, ◌∙◌, ℕ, zero, suc, ◌+◌, ◌-◌, ◌*◌, ◌<◌, ◌≤◌, min, List, [], ◌∷◌, ◌++◌, map, take, drop, refl, ap, arith, All, flat_map, range_with_len, min-le_right, All-drop, All-head, All-tail, EXTENT_CSUM, EXTENT_CSUM_OBJECTID, Image, block_at, make_key, Item, all_from_contains, left_of, block_sum, run_items, sum_items, sums_item, SameWhere, Piece, FitsSumBlocks, IsInPieces}
use Rattle.btr_tree.specs.csum_kinds.declared.kind.SumKind.{SumKind}
use Rattle.std.specs.Int.{div_ceil}
use Rattle.btr_tree.specs.csum_kinds.Kind.{kind_sum, kind_width}
use Rattle.space_items.specs.declared.sum_stream.SumStream.{SumStream}
use Rattle.unit_plan.specs.Sums.{sums_in_item}

map_same : {X : Type 0} (f g : ℕ → X) (a n : ℕ) → ((k : ℕ) → a ≤ k → k < a + n → g k ≡ f k) → map g (range_with_len a n) ≡ map f (range_with_len a n)
map_same f g a zero same = refl
map_same f g a (suc n) same =
    ap (λ y. y ∷ map g (range_with_len (a + 1) n)) (same a (omega arith) (omega arith))
    ∙ ap (λ ys. f a ∷ ys) (map_same f g (a + 1) n (λ k low high. same k (omega (arith, low)) (omega (arith, high))))

flat_same : {X : Type 0} (f g : ℕ → List X) (a n : ℕ) → ((k : ℕ) → a ≤ k → k < a + n → g k ≡ f k) → flat_map g (range_with_len a n) ≡ flat_map f (range_with_len a n)
flat_same f g a zero same = refl
flat_same f g a (suc n) same =
    ap (λ y. y ++ flat_map g (range_with_len (a + 1) n)) (same a (omega arith) (omega arith))
    ∙ ap (λ ys. f a ++ ys) (flat_same f g (a + 1) n (λ k low high. same k (omega (arith, low)) (omega (arith, high))))

within : (first count skip some b : ℕ) → some ≤ count - skip → first + skip ≤ b → b < (first + skip) + some → b < first + count
within first count skip some b few low high = omega (arith, few, low, high)

module _ (sums : SumKind) (image other : Image) where
  -- these blocks are the same
  abbrev Same : ℕ → ℕ → Type 0
  Same first count = (b : ℕ) → first ≤ b → b < first + count → block_at other b ≡ block_at image b

  item_same : (first count : ℕ) → Same first count → sums_item sums other first count ≡ sums_item sums image first count
  item_same first count same =
      ap (λ (body : List ℕ). (make_key EXTENT_CSUM_OBJECTID EXTENT_CSUM (4096 * first), body))
      (flat_same (block_sum sums image) (block_sum sums other) first count (λ b low high. ap (λ (bytes : List ℕ). take (kind_width sums) (kind_sum sums bytes)) (same b low high)))

  run_same : (first count : ℕ) → Same first count → run_items sums other first count ≡ run_items sums image first count
  run_same first count same =
      let n : ℕ = sums_in_item sums in
      map_same (λ i. sums_item sums image (first + n * i) (min n (count - n * i))) (λ i. sums_item sums other (first + n * i) (min n (count - n * i))) 0 (div_ceil count n)
      (λ i low high. item_same (first + n * i) (min n (count - n * i))
      (λ b from to. same b (omega (arith, from)) (within first count (n * i) (min n (count - n * i)) b (min-le_right n (count - n * i)) from to)))

  all_same : (pieces : List Piece) → All (λ p. Same p.place p.count) pieces → sum_items sums other pieces ≡ sum_items sums image pieces
  all_same [] all = refl
  all_same (p ∷ pieces) all =
      ap (λ (items : List Item). items ++ sum_items sums other pieces) (run_same p.place p.count (All-head (λ p. Same p.place p.count) p pieces all))
      ∙ ap (λ (items : List Item). run_items sums image p.place p.count ++ items) (all_same pieces (All-tail (λ p. Same p.place p.count) p pieces all))

  left_same : (done : ℕ) (pieces : List Piece) → All (λ p. Same p.place p.count) pieces → left_of sums other done pieces ≡ left_of sums image done pieces
  left_same done [] all = refl
  left_same done (p ∷ pieces) all =
      let whole = All-head (λ p. Same p.place p.count) p pieces all in
      ap (λ (items : List Item). items ++ sum_items sums other pieces)
      (run_same (p.place + done) (p.count - done) (λ b low high. whole b (omega (arith, low)) (omega (arith, low, high))))
      ∙ ap (λ (items : List Item). run_items sums image (p.place + done) (p.count - done) ++ items) (all_same pieces (All-tail (λ p. Same p.place p.count) p pieces all))

-- the items are those of the blocks of the pieces alone
pub sum_items_same : (sums : SumKind) (image other : Image) (pieces : List Piece) → SameWhere (IsInPieces pieces) image other → sum_items sums other pieces ≡ sum_items sums image pieces
sum_items_same sums image other pieces same =
    all_same sums image other pieces (all_from_contains (λ p. Same sums image other p.place p.count) pieces (λ p among b low high. same.blocks b (p, among, low, high)))

-- so is what is still to come of them
pub sums_fit : (s : SumStream) (pieces : List Piece) (image : Image) → FitsSumBlocks s pieces image
sums_fit s pieces image = record {
  stay = λ other same.
      left_same s.sums image other s.done (drop s.piece pieces)
      (All-drop (λ p. Same s.sums image other p.place p.count) s.piece pieces
      (all_from_contains (λ p. Same s.sums image other p.place p.count) pieces (λ p among b low high. same.blocks b (p, among, low, high))));
}
