-- Where the blocks of a sample go.
use Rattle.std.specs.Prelude.{ℕ, ◌+◌, ◌-◌, ◌/◌, ◌%◌, ◌==◌, nat_lt, Bool, ◌||◌}
use Rattle.std.specs.Int.{div_ceil}
use Rattle.reiser_items.specs.reiserfs_format.declared.block.TheConstants.{BITS_IN_BLOCK}

-- The first MiB and a half that a fresh volume uses: 64 KiB for boot code, the superblock, the first bitmap block, and
-- the journal of 8192 blocks from block 18 on with its header behind it.
abbrev pub first_free : ℕ
first_free = 8211

-- Block j of the blocks behind that, without the bitmap blocks: these are the multiples of 32768.
unfoldable pub place : ℕ → ℕ
place j = 8211 + j + (8210 + j) / 32767

-- how many blocks a volume has at least whose last block is block j of these
abbrev pub least_size : ℕ → ℕ
least_size total = place (total - 1) + 1

-- how many bitmap blocks a volume has
abbrev pub bitmap_blocks : ℕ → ℕ
bitmap_blocks blocks = div_ceil blocks BITS_IN_BLOCK

-- a block of a volume of so many blocks is used: all below `needed` are, and bitmap blocks
abbrev pub is_taken : ℕ → ℕ → Bool
is_taken needed b = nat_lt b needed || (b % BITS_IN_BLOCK == 0)

-- how many blocks are not
abbrev pub free_blocks : ℕ → ℕ → ℕ
free_blocks needed blocks = blocks - needed - (bitmap_blocks blocks - bitmap_blocks needed)
