-- Laws of bitmaps, of system blocks, and of units and their runs.
use Rattle.std.specs.Prelude.{◌≡◌, ℕ, ◌+◌, ◌<◌, ◌≤◌, ◌↔◌, true, List, Bool, Contains}
use Rattle.reiserfs_format.specs.declared.block.TheConstants.{FIRST_FREE_BLOCK, SUPER_BLOCK}
use Rattle.refusals.specs.outside.History.{Image, block_at}
use Rattle.reiser_bitmap.specs.Bits.{has, used_blocks}
use Rattle.reiser_bitmap.specs.Layout.{bitmap_block, bitmap_of}
use Rattle.reiser_bitmap.specs.System.{is_system, system_blocks}
use Rattle.reiser_bitmap.specs.Units.{IsFreeUnit, is_free_unit}
use Rattle.reiser_bitmap.specs.Runs.{AreMaximalRuns, free_runs}

-- two images that agree on the bitmap blocks of n blocks have the same bitmap
abbrev pub BitmapBlocksDecide : Type 0
BitmapBlocksDecide =
    (n : ℕ) (a b : Image) → FIRST_FREE_BLOCK ≤ n → ((k : ℕ) → bitmap_block k < n → block_at a (bitmap_block k) ≡ block_at b (bitmap_block k)) → bitmap_of n a ≡ bitmap_of n b

-- the used blocks are those that a set has
abbrev pub UsedBlocksAreHad : Type 0
UsedBlocksAreHad = (set : List Bool) (b : ℕ) → Contains (used_blocks set) b ↔ (has set b ≡ true)

-- in a volume that holds its superblock and its journal, the system blocks are the blocks that pass the test
abbrev pub SystemBlocksPass : Type 0
SystemBlocksPass =
    (n journal_first journal_size b : ℕ) → SUPER_BLOCK < n → journal_first + journal_size < n
    → Contains (system_blocks n journal_first journal_size) b ↔ ((b < n) × (is_system journal_first journal_size b ≡ true))

-- the test of a free unit tells the fact
abbrev pub FreeUnitsPass : Type 0
FreeUnitsPass = (used : List Bool) (u : ℕ) → (is_free_unit used u ≡ true) ↔ IsFreeUnit used u

-- the runs of free units are maximal, ascend, and hold each free unit
abbrev pub FreeRunsAreMaximal : Type 0
FreeRunsAreMaximal = (used : List Bool) → AreMaximalRuns (is_free_unit used) (free_runs used)
