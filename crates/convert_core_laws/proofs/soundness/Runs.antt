-- Checksums of blocks one behind the other, and the items that have at most so many of them each.
use Rattle.convert_core_laws.proofs.Imports.{◌≡◌, ◌≤◌, ◌<◌, ℕ, zero, suc, ◌+◌, ◌-◌, ◌*◌, ◌/◌, min, List, ◌++◌, length, length-append, map, take, drop, get_or, sym, ap, ◌∙◌, arith, AllPairs, Contains, div_ceil, flat_map, range_with_len, mul-suc, mul-zero, drop-append-add, take_at, get_or-range_with_len, length-range_with_len, SumKind, Crc32c, Sha256, pairs_map, from_map, in_map, contains_range, range_contains, sums_in_item}

module _ (width : ℕ) (f : ℕ → List ℕ) (wide : (b : ℕ) → length (f b) ≡ width) where
  abbrev pub row : ℕ → ℕ → List ℕ
  row first n = flat_map f (range_with_len first n)

  pub row_long : (first n : ℕ) → length (row first n) ≡ width * n
  row_long first zero = sym (mul-zero width)
  row_long first (suc n) =
      let both = length-append (f first) (row (first + 1) n) in
      let here = wide first in
      let rest = row_long (first + 1) n in
      let step = mul-suc width n in
      omega (arith, both, here, rest, step)

  -- the bytes of one block
  pub row_at : (first n k : ℕ) → k < n → take width (drop (width * k) (row first n)) ≡ f (first + k)
  row_at first zero k h = absurd (omega (arith, h))
  row_at first (suc n) zero h =
      let same : first ≡ first + 0 = omega arith in
      ap (λ (j : ℕ). take width (drop j (f first ++ row (first + 1) n))) (mul-zero width) ∙ (take_at (f first) (row (first + 1) n) width (wide first) ∙ ap f same)
  row_at first (suc n) (suc k) h =
      let rest : List ℕ = row (first + 1) n in
      let long = wide first in
      let next = mul-suc width k in
      let step : width * suc k ≡ length (f first) + width * k = omega (arith, long, next) in
      let same : first + 1 + k ≡ first + suc k = omega arith in
      ap (λ (j : ℕ). take width (drop j (f first ++ rest))) step ∙ (ap (take width) (drop-append-add (f first) rest (width * k)) ∙ (row_at (first + 1) n k (omega (arith, h)) ∙ ap f same))

-- ---- parts of so many blocks, by the kind of checksum

-- a part ends with the whole
part_inside : (sums : SumKind) (count i : ℕ) → i < div_ceil count (sums_in_item sums) → sums_in_item sums * i + min (sums_in_item sums) (count - sums_in_item sums * i) ≤ count
part_inside Crc32c count i inside = omega (arith, inside)
part_inside Sha256 count i inside = omega (arith, inside)

-- it has a block, and no more than an item has checksums
part_size : (sums : SumKind) (count i : ℕ) → i < div_ceil count (sums_in_item sums) → (1 ≤ min (sums_in_item sums) (count - sums_in_item sums * i)) × (min (sums_in_item sums) (count - sums_in_item sums * i) ≤ sums_in_item sums)
part_size Crc32c count i inside = (omega (arith, inside), omega arith)
part_size Sha256 count i inside = (omega (arith, inside), omega arith)

-- a block lies in the part of its number
record IsPartOf (sums : SumKind) (count k i : ℕ) : Type 0 where
  there : i < div_ceil count (sums_in_item sums)
  low : sums_in_item sums * i ≤ k
  high : k < sums_in_item sums * i + min (sums_in_item sums) (count - sums_in_item sums * i)

part_of : (sums : SumKind) (count k : ℕ) → k < count → IsPartOf sums count k (k / sums_in_item sums)
part_of Crc32c count k h = record { there = omega (arith, h); low = omega arith; high = omega (arith, h) }
part_of Sha256 count k h = record { there = omega (arith, h); low = omega arith; high = omega (arith, h) }

-- a part ends before the next begins
parts_apart : (sums : SumKind) (count i j : ℕ) → i < j → sums_in_item sums * i + min (sums_in_item sums) (count - sums_in_item sums * i) ≤ sums_in_item sums * j
parts_apart Crc32c count i j l = omega (arith, l)
parts_apart Sha256 count i j l = omega (arith, l)

module _ {X : Type 0} (sums : SumKind) (item : ℕ → ℕ → X) where
  abbrev part : ℕ → ℕ → ℕ → X
  part first count i = item (first + sums_in_item sums * i) (min (sums_in_item sums) (count - sums_in_item sums * i))

  abbrev pub runs : ℕ → ℕ → List X
  runs first count =
      map (λ i. item (first + sums_in_item sums * i) (min (sums_in_item sums) (count - sums_in_item sums * i))) (range_with_len 0 (div_ceil count (sums_in_item sums)))

  -- an element is of so many blocks from one on, all of them in a range
  pub record IsPart (first last : ℕ) (x : X) : Type 0 where
    pub at : ℕ
    pub long : ℕ
    pub is : x ≡ item at long
    pub low : first ≤ at
    pub high : at + long ≤ last
    pub some : 1 ≤ long
    pub few : long ≤ sums_in_item sums

  pub runs_parts : (first count : ℕ) (x : X) → Contains (runs first count) x → IsPart first (first + count) x
  runs_parts first count x h =
      let n : ℕ = sums_in_item sums in
      let of = from_map (part first count) (range_with_len 0 (div_ceil count n)) x h in
      let inside = (range_contains 0 (div_ceil count n) of.0 of.1).1 in
      let ends = part_inside sums count of.0 (omega (arith, inside)) in
      let size = part_size sums count of.0 (omega (arith, inside)) in
      record { at = first + n * of.0; long = min n (count - n * of.0); is = sym of.2; low = omega arith; high = omega (arith, ends); some = size.0; few = size.1 }

  -- an element is of this block
  pub record Covers (b : ℕ) (xs : List X) : Type 0 where
    pub at : ℕ
    pub long : ℕ
    pub there : Contains xs (item at long)
    pub low : at ≤ b
    pub high : b < at + long

  pub runs_cover : (first count b : ℕ) → first ≤ b → b < first + count → Covers b (runs first count)
  runs_cover first count b low high =
      let n : ℕ = sums_in_item sums in
      let i : ℕ = (b - first) / n in
      let is = part_of sums count (b - first) (omega (arith, low, high)) in
      let there = is.there in
      let starts = is.low in
      let ends = is.high in
      record {
        at = first + n * i;
        long = min n (count - n * i);
        there = in_map (part first count) (range_with_len 0 (div_ceil count n)) i (contains_range 0 (div_ceil count n) i (omega arith) (omega (arith, there)));
        low = omega (arith, low, starts);
        high = omega (arith, low, ends);
      }

  -- each ends before the next
  pub runs_apart : (R : X → X → Type 0) → ((a n b k : ℕ) → a + n ≤ b → R (item a n) (item b k)) → (first count : ℕ) → AllPairs R (runs first count)
  runs_apart R far first count =
      let n : ℕ = sums_in_item sums in
      let c : ℕ = div_ceil count n in
      pairs_map R (part first count) (range_with_len 0 c) (λ i j d l h.
      let long = length-range_with_len 0 c in
      let at_i : get_or (range_with_len 0 c) i d ≡ 0 + i = get_or-range_with_len 0 c i d (omega (arith, l, h, long)) in
      let at_j : get_or (range_with_len 0 c) j d ≡ 0 + j = get_or-range_with_len 0 c j d (omega (arith, h, long)) in
      let x : ℕ = get_or (range_with_len 0 c) i d in
      let y : ℕ = get_or (range_with_len 0 c) j d in
      let ends = parts_apart sums count x y (omega (arith, at_i, at_j, l)) in
      far (first + n * x) (min n (count - n * x)) (first + n * y) (min n (count - n * y)) (omega (arith, ends)))
