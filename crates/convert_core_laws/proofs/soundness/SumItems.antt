-- The items of the checksum tree: checksums of the blocks of pieces, each block once.
use Rattle.convert_core_laws.proofs.Imports.{◌≡◌, ◌≤◌, ◌<◌, ℕ, ◌+◌, ◌*◌, ◌/◌, ◌%◌, List, length, take, drop, get_or, refl, sym, subst, arith, AllPairs, Contains, from_flat_map, in_flat_map, Image, block_at, Item, IsSumItem, sum_count, most_sums, SumKind, Crc32c, Sha256, block_sum, run_items, sum_items, sums_item, Piece, kind_width, sums_in_item, pairs_flat}
use Rattle.btr_reader.proofs.csum_kinds.Widths.{length-sum}
use Rattle.convert_core_laws.proofs.soundness.Runs.{Covers, IsPart, row_at, row_long, runs_apart, runs_cover, runs_parts}

block_wide : (sums : SumKind) (image : Image) (b : ℕ) → length (block_sum sums image b) ≡ kind_width sums
block_wide sums image b = length-sum sums (block_at image b)

-- so many checksums have as many bytes as they are
sums_whole : (sums : SumKind) (n long : ℕ) → long ≡ kind_width sums * n → (long / kind_width sums ≡ n) × (long % kind_width sums ≡ 0)
sums_whole Crc32c n long is = (omega (arith, is), omega (arith, is))
sums_whole Sha256 n long is = (omega (arith, is), omega (arith, is))

-- an item has as many checksums as it was made with
pub count_of : (sums : SumKind) (image : Image) (first n : ℕ) → sum_count sums (sums_item sums image first n) ≡ n
count_of sums image first n = (sums_whole sums n _ (row_long (kind_width sums) (block_sum sums image) (block_wide sums image) first n)).0

-- no more than fit into a node
few_sums : (sums : SumKind) (nodesize n : ℕ) → 4096 ≤ nodesize → n ≤ sums_in_item sums → n ≤ most_sums nodesize sums
few_sums Crc32c nodesize n big few = omega (arith, big, few)
few_sums Sha256 nodesize n big few = omega (arith, big, few)

pub form_of_item : (nodesize : ℕ) (sums : SumKind) (image : Image) (first n : ℕ) → 4096 ≤ nodesize → 1 ≤ n → n ≤ sums_in_item sums → IsSumItem nodesize sums (sums_item sums image first n)
form_of_item nodesize sums image first n big some few =
    let whole = sums_whole sums n _ (row_long (kind_width sums) (block_sum sums image) (block_wide sums image) first n) in
    let count = whole.0 in
    let most = few_sums sums nodesize n big few in
    record { objectid = refl; kind = refl; start = omega arith; whole = whole.1; count = (omega (arith, count, some), omega (arith, count, most)) }

-- checksum number k of an item
pub sum_of : (sums : SumKind) (image : Image) (first n k : ℕ) → k < n → take (kind_width sums) (drop (kind_width sums * k) (sums_item sums image first n).1) ≡ block_sum sums image (first + k)
sum_of sums image first n k h = row_at (kind_width sums) (block_sum sums image) (block_wide sums image) first n k h

-- an item ends before another one begins
abbrev pub EndsFirst : SumKind → Item → Item → Type 0
EndsFirst sums i j = i.0.offset + 4096 * sum_count sums i ≤ j.0.offset

ends_first : (sums : SumKind) (image : Image) (a n b k : ℕ) → a + n ≤ b → EndsFirst sums (sums_item sums image a n) (sums_item sums image b k)
ends_first sums image a n b k far = let count = count_of sums image a n in omega (arith, count, far)

-- an item is of blocks of one piece
pub record IsOfPiece (sums : SumKind) (image : Image) (pieces : List Piece) (i : Item) : Type 0 where
  pub piece : Piece
  pub among : Contains pieces piece
  pub part : IsPart sums (sums_item sums image) piece.place (piece.place + piece.count) i

pub of_piece : (sums : SumKind) (image : Image) (pieces : List Piece) (i : Item) → Contains (sum_items sums image pieces) i → IsOfPiece sums image pieces i
of_piece sums image pieces i h =
    let of = from_flat_map (λ (p : Piece). run_items sums image p.place p.count) pieces i h in
    let p : Piece = of.0 in
    record { piece = p; among = of.1; part = runs_parts sums (sums_item sums image) p.place p.count i of.2 }

-- each block of a piece has a checksum
pub piece_covered : (sums : SumKind) (image : Image) (pieces : List Piece) (p : Piece) (b : ℕ) → Contains pieces p → p.place ≤ b → b < p.place + p.count → Covers sums (sums_item sums image) b (sum_items sums image pieces)
piece_covered sums image pieces p b h low high =
    let covers : Covers sums (sums_item sums image) b (run_items sums image p.place p.count) = runs_cover sums (sums_item sums image) p.place p.count b low high in
    record {
      at = covers.at;
      long = covers.long;
      there = in_flat_map (λ (q : Piece). run_items sums image q.place q.count) pieces p (sums_item sums image covers.at covers.long) h covers.there;
      low = covers.low;
      high = covers.high;
    }

-- items lie one behind the other
pub items_apart : (sums : SumKind) (image : Image) (pieces : List Piece) → AllPairs (λ p q. p.place + p.count ≤ q.place) pieces → AllPairs (EndsFirst sums) (sum_items sums image pieces)
items_apart sums image pieces up =
    pairs_flat (EndsFirst sums) (λ (p : Piece). run_items sums image p.place p.count) pieces (λ p h. runs_apart sums (sums_item sums image) (EndsFirst sums) (ends_first sums image) p.place p.count)
    (λ i j d l h x y one two.
    let p : Piece = get_or pieces i d in
    let q : Piece = get_or pieces j d in
    let far : p.place + p.count ≤ q.place = up i j d l h in
    let a : IsPart sums (sums_item sums image) p.place (p.place + p.count) x = runs_parts sums (sums_item sums image) p.place p.count x one in
    let b : IsPart sums (sums_item sums image) q.place (q.place + q.count) y = runs_parts sums (sums_item sums image) q.place q.count y two in
    let low = a.high in
    let high = b.low in
    subst (λ (z : Item). EndsFirst sums z y) (sym a.is)
    (subst (λ (z : Item). EndsFirst sums (sums_item sums image a.at a.long) z) (sym b.is) (ends_first sums image a.at a.long b.at b.long (omega (arith, low, high, far)))))
