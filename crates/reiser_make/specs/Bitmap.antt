-- Bitmap blocks: a bit for each of 32768 blocks, the low bit of a byte first.
use Rattle.std.specs.Prelude.{ℕ, ◌+◌, ◌*◌, nat_le, Bool, ◌||◌, List, map, if◌then◌else◌}
use Rattle.std.specs.List.{range_with_len}
use Rattle.reiser_items.specs.reiserfs_format.declared.block.TheConstants.{BITS_IN_BLOCK}
use Rattle.reiser_make.specs.Places.{is_taken}

abbrev pub bit : Bool → ℕ
bit b = if b then 1 else 0

-- the byte of eight bits from bit i on
abbrev pub byte_of : (ℕ → Bool) → ℕ → ℕ
byte_of set i =
    bit (set i) + 2 * bit (set (i + 1)) + 4 * bit (set (i + 2)) + 8 * bit (set (i + 3))
    + 16 * bit (set (i + 4)) + 32 * bit (set (i + 5)) + 64 * bit (set (i + 6)) + 128 * bit (set (i + 7))

-- What is marked: used blocks, and as mkfs.reiserfs and Linux have it all that lie past the end.
abbrev pub is_marked : ℕ → ℕ → ℕ → Bool
is_marked needed blocks b = is_taken needed b || nat_le blocks b

-- n bytes of marks, of blocks from block `first` on
unfoldable pub marks : ℕ → ℕ → ℕ → ℕ → List ℕ
marks needed blocks first n = map (λ j. byte_of (is_marked needed blocks) (first + 8 * j)) (range_with_len 0 n)

-- bitmap block k of a volume
abbrev pub bitmap_bytes : ℕ → ℕ → ℕ → List ℕ
bitmap_bytes needed blocks k = marks needed blocks (BITS_IN_BLOCK * k) 4096
