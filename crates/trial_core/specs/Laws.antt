-- What a trial leaves.
use Rattle.std.specs.Prelude.{◌≤◌, ◌<◌, ◌^◌, ℕ}
use Rattle.reiser_volume.specs.reiser_volume_contents.Laws.{SameUsed}
use Rattle.reiser_bitmap.specs.outside.History.{Image}
use Rattle.reiser_make.specs.Rows.{sample_rows}
use Rattle.reiser_volume.specs.Volume.{AreRowsOf, IsAccepted, used_of}
use Rattle.convert_core.specs.convert_trees_laws.Rows.{HasBytes}
use Rattle.convert_core.specs.space_items.Laws.{AreIds}
use Rattle.reiser_bitmap.specs.vol_block.declared.ids.Ids.{Ids}
use Rattle.trial_core.specs.Trial.{IsTried, sample_on}

-- The disk has the sample volume again: it is accepted, has the rows of the number, and each used block of the sample.
pub record IsSampleAgain (number : ℕ) (disk other : Image) : Type 0 where
  pub accepted : IsAccepted other
  pub rows : AreRowsOf other (sample_rows number)
  pub used : SameUsed (used_of (sample_on number disk)) (sample_on number disk) other

-- So has every disk that a trial was done on, if its blocks held bytes.
abbrev pub TriesKeep : Type 0
TriesKeep =
    (number : ℕ) (ids : Ids) (now : ℕ) (disk other : Image) → IsTried number ids now disk other → number ≤ 4000 → now < 2 ^ 63 → AreIds ids → HasBytes disk → IsSampleAgain number disk other
