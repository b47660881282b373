-- Where ReiserFS 3.6 keeps the bitmap of a volume.
use Rattle.std.specs.Prelude.{ℕ, ◌*◌, ◌/◌, ◌%◌, ◌==◌, Bool, List, map, if◌then◌else◌}
use Rattle.std.specs.List.{range_with_len}
use Rattle.reiserfs_format.specs.declared.block.TheConstants.{BITS_IN_BLOCK, FIRST_BITMAP_BLOCK}
use Rattle.refusals.specs.outside.History.{Image, block_at}
use Rattle.reiser_bitmap.specs.Bits.{bit_of}

-- Bitmap block k holds the bits of 32768 blocks, from block 32768·k on, and is the first of these. Bitmap block 0 is block 17.
abbrev pub bitmap_block : ℕ → ℕ
bitmap_block k = if k == 0 then FIRST_BITMAP_BLOCK else BITS_IN_BLOCK * k

-- block b is marked as used: its bit is 1
abbrev pub is_marked : Image → ℕ → Bool
is_marked image b = bit_of (block_at image (bitmap_block (b / BITS_IN_BLOCK))) (b % BITS_IN_BLOCK)

-- the bitmap of the first n blocks; bits past them are ignored
abbrev pub bitmap_of : ℕ → Image → List Bool
bitmap_of n image = map (is_marked image) (range_with_len 0 n)
