-- A trial: the sample of a number, which is made, converted and rolled back on a device without a volume.
use Rattle.std.specs.Prelude.{◌≡◌, ◌≤◌, ℕ, false, length, map}
use Rattle.reiser_volume.specs.fs_rows.Rows.{row_of}
use Rattle.reiser_bitmap.specs.outside.Format.{format_in}
use Rattle.reiser_bitmap.specs.outside.History.{History, Image, IsSettled, block_at, reads}
use Rattle.reiser_bitmap.specs.Bits.{has}
use Rattle.reiser_volume.specs.Volume.{used_of}
use Rattle.reiser_make_laws.specs.Rows.{IsAsDescribed}
use Rattle.reiser_make.specs.Inner.{needed}
use Rattle.reiser_make.specs.Rows.{sample_rows}
use Rattle.reiser_make.specs.Shape.{shape}
use Rattle.reiser_make_laws.specs.Laws.{made}
use Rattle.reiser_bitmap.specs.vol_block.declared.format.Format.TheVariants.{Neither}
use Rattle.reiser_bitmap.specs.vol_block.declared.ids.Ids.{Ids}
use Rattle.super_turn.specs.PutBack.{is_half_turned}
use Rattle.trial_core.specs.Parts.{summary_of}
use Rattle.trial_core.specs.declared.summary.TrialSummary.{TrialSummary}
use Rattle.trial_core.specs.Round.{IsRound}

-- how many blocks the sample takes
abbrev pub needed_by : ℕ → ℕ
needed_by number = needed (shape number false)

-- the disk with the sample in its first 65,536 blocks
abbrev pub sample_on : ℕ → Image → Image
sample_on number disk = made (shape number false) 65536 disk

-- a disk that has no volume, and blocks enough
pub record IsScratch (disk : Image) : Type 0 where
  pub format : format_in disk ≡ Neither
  pub long : 65536 ≤ length disk

-- what a volume leaves free is as it was
abbrev pub KeepsFree : Image → Image → Type 0
KeepsFree disk image = (b : ℕ) → has (used_of image) b ≡ false → block_at image b ≡ block_at disk b

-- The sample was made, and has reached the disk. It is an accepted volume with the rows of its number, of which block 16 is not half turned,
-- and no other block was written.
pub record IsSampleMade (number : ℕ) (old new : History) : Type 0 where
  pub written : reads new ≡ sample_on number (reads old)
  pub settled : IsSettled new
  pub described : IsAsDescribed number (reads new)
  pub unturned : is_half_turned (reads new) ≡ false
  pub free : KeepsFree (reads old) (reads new)

-- The sample was made on the disk, and no block that it leaves free was written. It was converted and rolled back.
pub record IsTried (number : ℕ) (ids : Ids) (now : ℕ) (disk other : Image) : Type 0 where
  pub scratch : IsScratch disk
  pub room : needed_by number ≤ 65536
  pub free : KeepsFree disk (sample_on number disk)
  pub round : IsRound ids now (sample_on number disk) other

-- what is told of the trial of a number
abbrev pub trial_summary : ℕ → TrialSummary
trial_summary number = summary_of (map row_of (sample_rows number))
