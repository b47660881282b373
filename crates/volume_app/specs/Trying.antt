-- What `trial` answers, prints and writes.
use Rattle.std.specs.Prelude.{◌≡◌, ◌⊎◌, ◌≤◌, ◌<◌, ℕ, true, List, [], ◌∷◌, codes, decimal}
use Rattle.convert_core.specs.Converted.{IsConvertible}
use Rattle.reiser_volume.specs.outside.History.{Image}
use Rattle.convert_core.specs.convert_trees_laws.Rows.{HasBytes}
use Rattle.trial_core.specs.Answers.{IsTrialAnswer, RefusesTrial}
use Rattle.trial_core.specs.Laws.{IsSampleAgain}
use Rattle.trial_core.specs.Round.{plain}
use Rattle.trial_core.specs.Trial.{IsScratch, IsTried, needed_by, sample_on, trial_summary}
use Rattle.trial_core.specs.declared.summary.TrialSummary.{TrialSummary}
use Rattle.reiser_volume.specs.vol_block.declared.ids.Ids.{Ids}
use Rattle.volume_app.specs.Meaning.{AnyOrder, IsSyncedAlone, Meaning}
use Rattle.volume_app.specs.Texts.{text_of_lines}

abbrev pub trial_lines : ℕ → TrialSummary → List (List ℕ × List (List ℕ))
trial_lines number told =
    (codes "trial", decimal number ∷ [])
    ∷ (codes "rows", decimal told.rows ∷ [])
    ∷ (codes "bytes", decimal told.bytes ∷ [])
    ∷ (codes "converted", [])
    ∷ (codes "same", codes "rows" ∷ [])
    ∷ (codes "rolled", codes "back" ∷ [])
    ∷ (codes "same", codes "blocks" ∷ [])
    ∷ []

abbrev pub trial_text : ℕ → TrialSummary → List ℕ
trial_text number told = text_of_lines (trial_lines number told)

-- the text for a number, whatever the disk: how many rows the sample has, and the bytes of its files
abbrev pub IsTrialText : ℕ → Image → List ℕ → Type 0
IsTrialText number disk text = text ≡ trial_text number (trial_summary number)

-- The disk has no volume and blocks enough, and the sample has room in the volume and leaves the space for a conversion.
pub record IsTriable (number : ℕ) (disk : Image) : Type 0 where
  pub scratch : IsScratch disk
  pub room : needed_by number ≤ 65536
  pub convertible : IsConvertible plain (sample_on number disk)

-- With these statuses nothing is written: the disk is refused, the words are no command, or the sample has more blocks than the volume.
abbrev pub KeepsScratch : ℕ → Image → ℕ → Type 0
KeepsScratch number disk status = ((status ≡ 1) × HasBytes disk) ⊎ ((status ≡ 2) ⊎ ((status ≡ 6) × (65536 < needed_by number)))

-- Where there is too little space the disk is as it was, as the sample has more blocks than the volume; or the sample stays.
abbrev pub LeavesSample : ℕ → Image → Image → Type 0
LeavesSample number disk other = ((65536 < needed_by number) × (other ≡ disk)) ⊎ ((needed_by number ≤ 65536) × (other ≡ sample_on number disk))

-- The sample was made, converted and rolled back; and the disk has it again, with its rows and each of its used blocks.
pub record IsTriedWhole (number : ℕ) (ids : Ids) (now : ℕ) (disk other : Image) : Type 0 where
  pub tried : IsTried number ids now disk other
  pub sample : HasBytes disk → IsSampleAgain number disk other

-- What `trial` of a number means, for these identifiers and at this time. It is for a device without anything of worth: of a crash nothing
-- is said, and where memory is short or a call of the device fails any block may have been written.
abbrev pub trial_meaning : Ids → ℕ → ℕ → Meaning
trial_meaning ids now number = record {
  is_usage = ⊥;
  asks_disk = Unit {0};
  writes = true;
  takes_memory = Unit {0};
  is_done = IsTriable number;
  is_due = λ disk. IsTriable number disk × HasBytes disk;
  is_text = IsTrialText number;
  answers = RefusesTrial number;
  knows = IsTrialAnswer;
  keeps = KeepsScratch number;
  first = IsSyncedAlone;
  lacking = LeavesSample number;
  starved = λ disk other. Unit {0};
  becomes = IsTriedWhole number ids now;
  leaves = λ disk other. Unit {0};
  order = AnyOrder;
}
