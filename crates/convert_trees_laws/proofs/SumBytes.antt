-- The tree of checksums takes no more than was counted.
use Rattle.convert_trees_laws.proofs.Imports.{◌≡◌, ◌≤◌, ℕ, zero, suc, ◌+◌, ◌-◌, ◌*◌, ◌/◌, min, Bool, true, false, List, [], ◌∷◌, length, get_or, sum_by, if◌then◌else◌, ap, arith, div_ceil, flat_map, range_with_len, length-take, length-range_with_len, sum_by-cons, sum_by-le, ITEM_SIZE, Image, block_at, SumKind, Crc32c, Sha256, checksum_tree_bytes, Counts, Piece, bytes_in, block_sum, run_items, sum_items, sums_item}
use Rattle.std.proofs.lemmas.List.Concat.{length-flat_map}
use Rattle.btr_reader.specs.csum_kinds.Kind.{kind_sum, kind_width}
use Rattle.convert_steps.specs.unit_plan.Sums.{sums_in_item}
use Rattle.convert_trees_laws.proofs.ItemBytes.{bytes-append, bytes-map}

sums_short : (sums : SumKind) (image : Image) (first count : ℕ) → length (flat_map (block_sum sums image) (range_with_len first count)) ≤ kind_width sums * count
sums_short sums image first count =
    let blocks : List ℕ = range_with_len first count in
    let long = length-flat_map (block_sum sums image) blocks in
    let each = sum_by-le (λ (b : ℕ). length (block_sum sums image b)) (kind_width sums) blocks
    (λ k d h. omega (arith, length-take (kind_width sums) (kind_sum sums (block_at image (get_or blocks k d))))) in
    let many = ap (λ (n : ℕ). kind_width sums * n) (length-range_with_len first count) in
    omega (arith, long, each, many)

-- the bytes of a part and of those behind it
part_and_rest : (sums : SumKind) (count a k all rest : ℕ) → all ≡ ITEM_SIZE + kind_width sums * min (sums_in_item sums) (count - sums_in_item sums * a) + rest
    → rest ≤ ITEM_SIZE * k + kind_width sums * (count - sums_in_item sums * (a + 1)) → all ≤ ITEM_SIZE * suc k + kind_width sums * (count - sums_in_item sums * a)
part_and_rest Crc32c count a k all rest is few = omega (arith, is, few)
part_and_rest Sha256 count a k all rest is few = omega (arith, is, few)

-- the blocks of the items from number a on
sum_parts : (sums : SumKind) (count a k : ℕ) → sum_by (λ i. ITEM_SIZE + kind_width sums * min (sums_in_item sums) (count - sums_in_item sums * i)) (range_with_len a k) ≤ ITEM_SIZE * k + kind_width sums * (count - sums_in_item sums * a)
sum_parts sums count a zero = omega arith
sum_parts sums count a (suc k) =
    part_and_rest sums count a k _ _ (sum_by-cons (λ (i : ℕ). ITEM_SIZE + kind_width sums * min (sums_in_item sums) (count - sums_in_item sums * i)) a (range_with_len (a + 1) k)) (sum_parts sums count (a + 1) k)

run_bytes : (sums : SumKind) (image : Image) (first count : ℕ) → bytes_in (run_items sums image first count) ≤ ITEM_SIZE * div_ceil count (sums_in_item sums) + kind_width sums * count
run_bytes sums image first count =
    let each = bytes-map (λ (i : ℕ). sums_item sums image (first + sums_in_item sums * i) (min (sums_in_item sums) (count - sums_in_item sums * i)))
    (λ i. kind_width sums * min (sums_in_item sums) (count - sums_in_item sums * i))
    (λ i. sums_short sums image (first + sums_in_item sums * i) (min (sums_in_item sums) (count - sums_in_item sums * i))) (range_with_len 0 (div_ceil count (sums_in_item sums))) in
    let parts = sum_parts sums count 0 (div_ceil count (sums_in_item sums)) in
    let whole : kind_width sums * (count - sums_in_item sums * 0) ≡ kind_width sums * count = ap (λ (k : ℕ). kind_width sums * k) (none (sums_in_item sums)) in
    omega (arith, each, parts, whole)
  where
    none : (n : ℕ) → count - n * 0 ≡ count
    none n = omega arith

-- a piece and those behind it
piece_and_rest : (sums : SumKind) (n s t l whole first later : ℕ) → whole ≡ first + later → first ≤ ITEM_SIZE * div_ceil n (sums_in_item sums) + kind_width sums * n
    → later ≤ kind_width sums * s + ITEM_SIZE * (l + s / sums_in_item sums) → t ≡ n + s → whole ≤ kind_width sums * t + ITEM_SIZE * (suc l + t / sums_in_item sums)
piece_and_rest Crc32c n s t l whole first later both here rest all = omega (arith, both, here, rest, all)
piece_and_rest Sha256 n s t l whole first later both here rest all = omega (arith, both, here, rest, all)

sum_bytes : (sums : SumKind) (image : Image) (ps : List Piece) → bytes_in (sum_items sums image ps) ≤ kind_width sums * sum_by (λ p. p.count) ps + ITEM_SIZE * (length ps + sum_by (λ p. p.count) ps / sums_in_item sums)
sum_bytes sums image [] = omega arith
sum_bytes sums image (p ∷ ps) =
    piece_and_rest sums p.count (sum_by (λ (q : Piece). q.count) ps) (sum_by (λ (q : Piece). q.count) (p ∷ ps)) (length ps) _ _ _
    (bytes-append (run_items sums image p.place p.count) (sum_items sums image ps)) (run_bytes sums image p.place p.count) (sum_bytes sums image ps) (sum_by-cons (λ (q : Piece). q.count) p ps)

-- more pieces and blocks take no less
more_bytes : (sums : SumKind) (p q b c : ℕ) → p ≤ q → b ≤ c → kind_width sums * b + ITEM_SIZE * (p + b / sums_in_item sums) ≤ kind_width sums * c + ITEM_SIZE * (q + c / sums_in_item sums)
more_bytes Crc32c p q b c number blocks = omega (arith, number, blocks)
more_bytes Sha256 p q b c number blocks = omega (arith, number, blocks)

-- with or without checksums
pub sums_counted : (datasum : Bool) (sums : SumKind) (image : Image) (ps : List Piece) (c : Counts) → length ps ≤ c.pieces → sum_by (λ p. p.count) ps ≤ c.piece_blocks
    → bytes_in (if datasum then sum_items sums image ps else []) ≤ checksum_tree_bytes sums c
sums_counted true sums image ps c number blocks =
    let few = sum_bytes sums image ps in
    let more = more_bytes sums (length ps) c.pieces (sum_by (λ p. p.count) ps) c.piece_blocks number blocks in
    omega (arith, few, more)
sums_counted false sums image ps c number blocks = omega arith
