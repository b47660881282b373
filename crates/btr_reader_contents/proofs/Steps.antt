-- The blocks of a range go over into a file from the front.
use Rattle.btr_reader_contents.proofs.Imports.{◌≡◌, ℕ, ◌+◌, ◌-◌, ◌*◌, ◌/◌, ◌%◌, ◌<◌, ◌≤◌, min, eqb, leb, true, false, ◌&&◌, ◌||◌, if◌then◌else◌, List, get_or, sym, ap, ◌∙◌, arith, nat_tests, div_ceil, Image, Regular, MapRange, place, ReplacesBlock, joined_at, joined_below, joined_end, joined_outside_below, joined_outside_above, AreInBlocks, block_or_zeros, is_hole, byte_of_place, content_byte, range_is_aligned, Appends}
use Rattle.btr_reader_walk.specs.btr_keys.declared.file_extent.DiskRange.{DiskRange}
use Rattle.btr_reader_contents.proofs.ExtentLists.{first, second}
use Rattle.btr_reader_contents.proofs.Places.{byte_in_block}

-- behind the part nothing changes
pub unchanged : {at count : ℕ} {part f g : ℕ → ℕ} → Appends at count part f g → (n : ℕ) → at + count ≤ n → g n ≡ f n
unchanged over n h = over.after n h ∙ sym (over.before n (omega (arith, h)))

-- what a range that is aligned is a multiple of
record InBlocks (offset : ℕ) (r : DiskRange) : Type 0 where
  at : offset % 4096 ≡ 0
  many : r.num_bytes % 4096 ≡ 0
  disk : (r.disk_bytenr + r.offset) % 4096 ≡ 0

in_blocks : (offset : ℕ) (r : DiskRange) → is_hole r ≡ false → range_is_aligned offset r ≡ true → InBlocks offset r
in_blocks offset r some h =
    let whole : eqb (offset % 4096) 0 ≡ true = first (eqb (offset % 4096) 0) _ h in
    let rest = second (eqb (offset % 4096) 0) _ h in
    let counted : eqb (r.num_bytes % 4096) 0 ≡ true = first (eqb (r.num_bytes % 4096) 0) _ rest in
    let placed = ap (λ t. t || ((eqb (r.disk_bytenr % 4096) 0) && ((eqb (r.offset % 4096) 0) && leb (r.offset + r.num_bytes) r.disk_num_bytes))) (sym some) ∙ second (eqb (r.num_bytes % 4096) 0) _ rest in
    let address : eqb (r.disk_bytenr % 4096) 0 ≡ true = first (eqb (r.disk_bytenr % 4096) 0) _ placed in
    let inner : eqb (r.offset % 4096) 0 ≡ true = first (eqb (r.offset % 4096) 0) _ (second (eqb (r.disk_bytenr % 4096) 0) _ placed) in
    let a : r.disk_bytenr % 4096 ≡ 0 = grind (arith, nat_tests, address) in
    let b : r.offset % 4096 ≡ 0 = grind (arith, nat_tests, inner) in
    record { at = grind (arith, nat_tests, whole); many = grind (arith, nat_tests, counted); disk = omega (arith, a, b) }

-- a byte of a range in its block
range_byte : (image : Image) (ranges : List MapRange) (r : DiskRange) (offset j i : ℕ) → AreInBlocks ranges → is_hole r ≡ false → InBlocks offset r → i < 4096
    → content_byte image ranges (Regular r) (4096 * j + i) ≡ get_or (block_or_zeros image (place ranges (r.disk_bytenr + r.offset + 4096 * j))) i 0
range_byte image ranges r offset j i whole some straight low =
    let a : ℕ = r.disk_bytenr + r.offset in
    let there : r.disk_bytenr + r.offset + (4096 * j + i) ≡ r.disk_bytenr + r.offset + 4096 * j + i = omega arith in
    ap (λ t. if t then 0 else byte_of_place image (place ranges (r.disk_bytenr + r.offset + (4096 * j + i)))) some
    ∙ ap (λ (b : ℕ). byte_of_place image (place ranges b)) there
    ∙ byte_in_block image ranges (r.disk_bytenr + r.offset + 4096 * j) i whole (omega (arith, straight.disk)) low

-- one block of a range
pub block_replaces : (image : Image) (ranges : List MapRange) (offset size : ℕ) (r : DiskRange) (f g : ℕ → ℕ) (j : ℕ) → AreInBlocks ranges → is_hole r ≡ false → range_is_aligned offset r ≡ true
    → Appends offset (min r.num_bytes (size - offset)) (content_byte image ranges (Regular r)) f g → j < r.num_bytes / 4096
    → ReplacesBlock size (offset / 4096 + j) (block_or_zeros image (place ranges (r.disk_bytenr + r.offset + 4096 * j))) (joined_at (4096 * (offset / 4096 + j)) g f) (joined_at (4096 * (offset / 4096 + (j + 1))) g f)
block_replaces image ranges offset size r f g j whole some aligned over within =
    let straight : InBlocks offset r = in_blocks offset r some aligned in
    let from : ℕ = 4096 * (offset / 4096 + j) in
    let to : ℕ = 4096 * (offset / 4096 + (j + 1)) in
    let up : from ≤ to = omega arith in
    record {
      inside = λ i low below.
          let n : ℕ = 4096 * (offset / 4096 + j) + i in
          let high : n < to = omega (arith, low) in
          let is : n - offset ≡ 4096 * j + i = omega (arith, straight.at) in
          joined_below to g f n high
          ∙ over.inside n (omega (arith, straight.at)) (omega (arith, straight.at, straight.many, low, within, below))
          ∙ ap (content_byte image ranges (Regular r)) is
          ∙ range_byte image ranges r offset j i whole some straight low;
      past = λ i low past. joined_below to g f (4096 * (offset / 4096 + j) + i) (omega (arith, low)) ∙ over.after _ (omega (arith, past, straight.at));
      below = λ n h. joined_outside_below from to g f up n h;
      above = λ n h. joined_outside_above from to g f up n (omega (arith, h));
    }

-- all blocks below the size have gone over
pub blocks_end : (offset size count : ℕ) (r : DiskRange) (part f g : ℕ → ℕ) → is_hole r ≡ false → range_is_aligned offset r ≡ true → Appends offset (min r.num_bytes (size - offset)) part f g
    → count ≡ min (r.num_bytes / 4096) (div_ceil size 4096 - offset / 4096) → (n : ℕ) → joined_at (4096 * (offset / 4096 + count)) g f n ≡ g n
blocks_end offset size count r part f g some aligned over is =
    let straight : InBlocks offset r = in_blocks offset r some aligned in
    joined_end (4096 * (offset / 4096 + count)) g f (λ n h. unchanged over n (omega (arith, is, h, straight.at, straight.many)))
