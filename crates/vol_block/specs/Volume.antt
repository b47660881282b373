-- Blocks as lists of bytes, their fields, and the blocks that Btrfs keeps for itself.
use Rattle.std.specs.Prelude.{◌⊎◌, ℕ, ◌*◌, ◌/◌, ◌≤◌, ◌<◌, nat_lt, nat_le, Bool, ◌&&◌, ◌||◌, List, ◌++◌, take, drop, replicate}
use Rattle.btrfs_format.specs.declared.block.TheConstants.{FIRST_MIRROR, FIRST_MIRROR_END, RESERVED_BLOCKS, SECOND_MIRROR, SECOND_MIRROR_END}
use Rattle.byteorder.specs.Endian.{little_number, little_bytes}

-- a block of zeros
abbrev pub zeros : List ℕ
zeros = replicate 4096 0

-- the number in the n bytes at a place, the low byte first
abbrev pub field : ℕ → List ℕ → ℕ → ℕ
field n bytes at = little_number n (drop at bytes)

-- the bytes with the number x in the n bytes at a place
abbrev pub put_field : ℕ → List ℕ → ℕ → ℕ → List ℕ
put_field n bytes at x = take at bytes ++ (little_bytes n x ++ drop n (drop at bytes))

-- The first MiB, the 64 KiB at 64 MiB and at 256 GiB, where copies of the Btrfs superblock lie, and what is left behind
-- the last multiple of 64 KiB of a volume of this many blocks.
abbrev pub IsReserved : ℕ → ℕ → Type 0
IsReserved b blocks =
    (b < RESERVED_BLOCKS) ⊎ ((FIRST_MIRROR ≤ b) × (b < FIRST_MIRROR_END)) ⊎ ((SECOND_MIRROR ≤ b) × (b < SECOND_MIRROR_END)) ⊎ ((16 * (blocks / 16) ≤ b) × (b < blocks))

-- the same as a test
abbrev pub is_reserved : ℕ → ℕ → Bool
is_reserved b blocks =
    nat_lt b RESERVED_BLOCKS || ((nat_le FIRST_MIRROR b && nat_lt b FIRST_MIRROR_END) || ((nat_le SECOND_MIRROR b && nat_lt b SECOND_MIRROR_END) || (nat_le (16 * (blocks / 16)) b && nat_lt b blocks)))
