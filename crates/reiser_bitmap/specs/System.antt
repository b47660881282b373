-- The blocks that a ReiserFS volume keeps for itself.
use Rattle.std.specs.Prelude.{◌≡◌, ℕ, ◌+◌, ◌/◌, ◌==◌, nat_le, Bool, false, ◌&&◌, ◌||◌, List, ◌∷◌, ◌++◌, length, filter, Contains}
use Rattle.std.specs.List.{range_with_len}
use Rattle.reiserfs_format.specs.declared.block.TheConstants.{BITS_IN_BLOCK, SUPER_BLOCK}
use Rattle.refusals.specs.declared.refusal.VolumeRefusal.{VolumeRefusal}
use Rattle.refusals.specs.declared.refusal.VolumeRefusal.TheVariants.{Damaged}
use Rattle.refusals.specs.declared.rule.Rule.TheVariants.{SystemFree}
use Rattle.reiser_bitmap.specs.Bits.{has}
use Rattle.reiser_bitmap.specs.Layout.{bitmap_block}

-- a bitmap block is the one that holds its own bit
abbrev pub is_bitmap_block : ℕ → Bool
is_bitmap_block b = b == bitmap_block (b / BITS_IN_BLOCK)

-- The superblock, a bitmap block, or a block of the journal: its log has journal_size blocks, and its header is behind it.
abbrev pub is_system : ℕ → ℕ → ℕ → Bool
is_system journal_first journal_size b =
    (b == SUPER_BLOCK) || (is_bitmap_block b || (nat_le journal_first b && nat_le b (journal_first + journal_size)))

-- the system blocks of a volume of n blocks: the superblock, the bitmap blocks, and the journal with its header
unfoldable pub system_blocks : ℕ → ℕ → ℕ → List ℕ
system_blocks n journal_first journal_size =
    SUPER_BLOCK ∷ (filter is_bitmap_block (range_with_len 0 n) ++ range_with_len journal_first (journal_size + 1))

-- the refusal names a system block that is not marked as used
abbrev pub NamesFreeBlock : List Bool → ℕ → ℕ → VolumeRefusal → Type 0
NamesFreeBlock used journal_first journal_size refusal =
    (b : ℕ) × (refusal ≡ Damaged b SystemFree) × Contains (system_blocks (length used) journal_first journal_size) b × (has used b ≡ false)
