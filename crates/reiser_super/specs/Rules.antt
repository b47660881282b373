-- Which superblocks are those of a clean volume, and how each other one is refused.
use Rattle.std.specs.Prelude.{◌≡◌, ℕ, ◌+◌, ◌^◌, ◌<◌, ◌≤◌, ◌==◌, nat_lt, nat_le, Bool, true, false, not, ◌&&◌, List, [], ◌∷◌, codes, Option, Some, None, if◌then◌else◌}
use Rattle.reiserfs_format.specs.declared.block.TheConstants.{FIRST_FREE_BLOCK, SUPER_BLOCK, SUPER_MAGIC_OFFSET, VALID_FS}
use Rattle.reiserfs_format.specs.declared.key.TheConstants.{MAX_HEIGHT}
use Rattle.refusals.specs.declared.refusal.VolumeRefusal.{VolumeRefusal}
use Rattle.refusals.specs.declared.refusal.VolumeRefusal.TheVariants.{NotVolume, Unsupported, Unclean, Damaged, Short}
use Rattle.refusals.specs.declared.rule.Feature.TheVariants.{OldMagic, BlockSize, JournalDevice, FsState, BlockCount}
use Rattle.refusals.specs.declared.rule.Rule.TheVariants.{SuperField}
use Rattle.refusals.specs.vol_block.Format.{has_bytes_at, has_reiser_magic}
use Rattle.reiser_super.specs.declared.superblock.Super.{Super}
use Rattle.reiser_super.specs.Superblock.{superblock_fields, journal_device, block_size, mount_state, checker_state}

-- the magic of format 3.5, which is one of the three
abbrev pub has_old_magic : List ℕ → Bool
has_old_magic bytes = has_bytes_at bytes SUPER_MAGIC_OFFSET (codes "ReIsErFs")

-- the tree and the journal lie in the volume
pub record IsInBounds (s : Super) : Type 0 where
  pub height_low : 2 ≤ s.height
  pub height_high : s.height ≤ MAX_HEIGHT
  pub root : s.root < s.blocks
  pub journal_first : FIRST_FREE_BLOCK ≤ s.journal_first
  pub journal_size : 1 ≤ s.journal_size
  pub journal_end : s.journal_first + s.journal_size < s.blocks
  pub blocks : FIRST_FREE_BLOCK ≤ s.blocks

-- block 16 of a clean volume that fits on a device of so many blocks
pub record IsCleanSuper (bytes : List ℕ) (device : ℕ) : Type 0 where
  pub there : SUPER_BLOCK < device
  pub magic : has_reiser_magic bytes ≡ true
  pub new_magic : has_old_magic bytes ≡ false
  pub blocks_fit : block_size bytes ≡ 4096
  pub journal_here : journal_device bytes ≡ 0
  pub undamaged : checker_state bytes ≡ 0
  pub count : (superblock_fields bytes).blocks ≤ 2 ^ 29
  pub unmounted : mount_state bytes ≡ VALID_FS
  pub bounds : IsInBounds (superblock_fields bytes)
  pub fits : (superblock_fields bytes).blocks ≤ device

-- the same as a test
abbrev pub is_in_bounds : Super → Bool
is_in_bounds s =
    (nat_le 2 s.height && nat_le s.height MAX_HEIGHT)
    && (nat_lt s.root s.blocks && (nat_le FIRST_FREE_BLOCK s.journal_first && (nat_le 1 s.journal_size && (nat_lt (s.journal_first + s.journal_size) s.blocks && nat_le FIRST_FREE_BLOCK s.blocks))))

-- the rules in the order in which they are tried, each with the refusal where it fails
abbrev pub superblock_rules : List ℕ → ℕ → List (Bool × VolumeRefusal)
superblock_rules bytes device =
    (nat_lt SUPER_BLOCK device && has_reiser_magic bytes, NotVolume)
    ∷ (not (has_old_magic bytes), Unsupported OldMagic 35)
    ∷ (block_size bytes == 4096, Unsupported BlockSize (block_size bytes))
    ∷ (journal_device bytes == 0, Unsupported JournalDevice (journal_device bytes))
    ∷ (checker_state bytes == 0, Unsupported FsState (checker_state bytes))
    ∷ (nat_le (superblock_fields bytes).blocks (2 ^ 29), Unsupported BlockCount (superblock_fields bytes).blocks)
    ∷ (mount_state bytes == VALID_FS, Unclean (mount_state bytes))
    ∷ (is_in_bounds (superblock_fields bytes), Damaged SUPER_BLOCK SuperField)
    ∷ (nat_le (superblock_fields bytes).blocks device, Short (superblock_fields bytes).blocks device)
    ∷ []

-- the refusal of the first rule that fails
abbrev pub first_refusal : List (Bool × VolumeRefusal) → Option VolumeRefusal
first_refusal [] = None
first_refusal (rule ∷ rules) = if rule.0 then first_refusal rules else Some rule.1

abbrev pub superblock_refusal : List ℕ → ℕ → Option VolumeRefusal
superblock_refusal bytes device = first_refusal (superblock_rules bytes device)
