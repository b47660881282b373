-- What `recover` makes of a disk, and what a crash of it leaves.
use Rattle.std.specs.Prelude.{◌≡◌, ◌⊎◌, ℕ, true, List, [], ◌∷◌, length, filter, Ok}
use Rattle.first_sync.specs.Synced.{synced_now}
use Rattle.btr_reader.specs.btrfs_format.declared.block.TheConstants.{FIRST_MIRROR, SECOND_MIRROR, SUPER_BLOCK}
use Rattle.reiser_bitmap.specs.outside.Format.{format_in}
use Rattle.reiser_bitmap.specs.outside.History.{History, Image, IsBlock, WritesOnly, after, block_at, reads, wrote}
use Rattle.btr_reader.specs.btr_super.Rules.{super_of}
use Rattle.btr_reader.specs.btr_super.declared.superblock.Super.{Super}
use Rattle.convert_steps.specs.Switch.{IsMirror}
use Rattle.reiser_volume.specs.Volume.{IsFrontAccepted}
use Rattle.reiser_bitmap.specs.vol_block.declared.format.Format.{Format}
use Rattle.reiser_bitmap.specs.vol_block.declared.format.Format.TheVariants.{Reiser, Btrfs, Neither}
use Rattle.super_turn.specs.PutBack.{IsPuttingBack, put_back}
use Rattle.rollback_core.specs.Mending.{is_torn, mended}
use Rattle.rollback_core.specs.declared.recovery.RecoverSummary.{RecoverSummary}

-- What is looked at keeps its rules: superblock, journal and bitmap of a ReiserFS volume, and of a Btrfs volume the superblock.
abbrev pub IsInOrder : Format → Image → Type 0
IsInOrder Reiser image = IsFrontAccepted image
IsInOrder Btrfs image = (s : Super) × (super_of (block_at image SUPER_BLOCK) SUPER_BLOCK (length image) ≡ Ok s)
IsInOrder Neither image = ⊥

abbrev pub IsRecoverable : Image → Type 0
IsRecoverable image = IsInOrder (format_in image) image

-- The blocks of the copies hold what is to stand there, and no other block differs.
pub record IsRecovered (image other : Image) : Type 0 where
  pub can : IsRecoverable image
  pub size : length other ≡ length image
  pub copies : (b : ℕ) → IsMirror b → block_at other b ≡ mended image b
  pub others : (b : ℕ) → ¬ IsMirror b → block_at other b ≡ block_at image b

-- Each block is as it was, or it is the block of a copy and is to change: then it may hold anything.
pub record IsPartly (image other : Image) : Type 0 where
  pub size : length other ≡ length image
  pub each : (b : ℕ) → (block_at other b ≡ block_at image b) ⊎ (IsMirror b × (is_torn image b ≡ true))

-- what a crash at any moment may leave once block 16 is put back
abbrev pub IsLeftByRecover : Image → Image → Type 0
IsLeftByRecover image other = (other ≡ image) ⊎ (IsRecoverable image × IsPartly image other)

-- what a crash at any moment may leave
abbrev pub IsLeftByRecovery : Image → Image → Type 0
IsLeftByRecovery image other = IsPuttingBack image other ⊎ IsLeftByRecover (put_back image) other

-- a write that mends the block of a copy, which holds something else
pub record IsMend (image : Image) (b : ℕ) (bytes : List ℕ) : Type 0 where
  pub mirror : IsMirror b
  pub torn : is_torn image b ≡ true
  pub bytes_are : bytes ≡ mended image b

-- ---- in which order

-- a write of block 16 as it stands
abbrev pub IsRewrite : Image → ℕ → List ℕ → Type 0
IsRewrite image b bytes = IsBlock 16 (block_at image SUPER_BLOCK) b bytes

-- all that is written: block 16, and what mends the block of a copy
abbrev pub IsRecoverWrite : Image → ℕ → List ℕ → Type 0
IsRecoverWrite image b bytes = (b ≡ 16) ⊎ IsMend (put_back image) b bytes

-- the history behind a write of block 16 as it stands, and a sync, which both succeeded
abbrev pub rewritten : History → History
rewritten h = synced_now (after (wrote 16 (block_at (reads h) SUPER_BLOCK) true) h)

-- Nothing is written but block 16 as it stands; or that was written and has reached the device, and then alone something with P was.
abbrev pub RewritesFirst : (ℕ → List ℕ → Type 0) → History → History → Type 0
RewritesFirst P old new = WritesOnly (IsRewrite (reads old)) old new ⊎ WritesOnly P (rewritten old) new

-- Before that block 16 was put back; or putting it back is all that was begun.
abbrev pub PutsBackFirst : History → History → Type 0
PutsBackFirst old new =
    WritesOnly (λ b bytes. b ≡ 16) old new
    ⊎ ((mid : History) × WritesOnly (λ b bytes. b ≡ 16) old mid × (reads mid ≡ put_back (reads old)) × RewritesFirst (IsMend (put_back (reads old))) mid new)

-- So `recover`: nothing was called, or a sync first, and no copy is written before block 16 was, as it was to stand.
abbrev pub RewritesBeforeCopies : History → History → Type 0
RewritesBeforeCopies old new = (new ≡ old) ⊎ PutsBackFirst (synced_now old) new

-- ---- what is told

-- the blocks of the copies
abbrev pub copy_blocks : List ℕ
copy_blocks = FIRST_MIRROR ∷ SECOND_MIRROR ∷ []

-- those that are to change
abbrev pub torn_blocks : Image → List ℕ
torn_blocks image = filter (is_torn image) copy_blocks

-- the format, and how many blocks are to change
abbrev pub recover_summary : Image → RecoverSummary
recover_summary image = record { format = format_in image; mirrors = length (torn_blocks image) }
