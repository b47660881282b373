-- What `recover` answers, prints and writes.
use Rattle.std.specs.Prelude.{◌≡◌, ◌⊎◌, ℕ, true, List, [], ◌∷◌, codes, decimal}
use Rattle.reiser_volume.specs.outside.History.{Image}
use Rattle.rollback_core.specs.RecoveryAnswers.{IsRecoverAnswer, RefusesRecover}
use Rattle.rollback_core.specs.Recovered.{IsLeftByRecovery, IsRecoverable, IsRecovered, RewritesBeforeCopies, recover_summary}
use Rattle.rollback_core.specs.declared.recovery.RecoverSummary.{RecoverSummary}
use Rattle.reiser_volume.specs.vol_block.declared.format.Format.{Format}
use Rattle.reiser_volume.specs.vol_block.declared.format.Format.TheVariants.{Reiser, Btrfs, Neither}
use Rattle.volume_app.specs.Meaning.{IsSyncedBack, Meaning}
use Rattle.super_turn.specs.PutBack.{put_back}
use Rattle.volume_app.specs.Texts.{text_of_lines}
use Rattle.volume_app.specs.Trees.{KeepsTree}

-- the word for a format; a disk that has neither is never recovered
abbrev pub format_word : Format → List ℕ
format_word Reiser = codes "reiserfs"
format_word Btrfs = codes "btrfs"
format_word Neither = codes "neither"

abbrev pub recover_lines : RecoverSummary → List (List ℕ × List (List ℕ))
recover_lines told =
    (codes "volume", codes "is" ∷ format_word told.format ∷ [])
    ∷ (codes "mirrors", decimal told.mirrors ∷ [])
    ∷ []

abbrev pub recover_text : RecoverSummary → List ℕ
recover_text told = text_of_lines (recover_lines told)

-- the text for a disk: its format, and how many blocks of copies are written
abbrev pub IsRecoverText : Image → List ℕ → Type 0
IsRecoverText disk text = text ≡ recover_text (recover_summary (put_back disk))

-- the volume is recovered, and its tree is as before
pub record IsRecoveredWhole (disk other : Image) : Type 0 where
  pub recovered : IsRecovered (put_back disk) other
  pub tree : KeepsTree disk other

-- the volume stands, with its tree
pub record IsRecoverLeftWhole (disk other : Image) : Type 0 where
  pub left : IsLeftByRecovery disk other
  pub tree : KeepsTree disk other

-- What `recover` means. Where the volume is refused or memory is short nothing is written but a block 16 that was half turned, and nothing at
-- all where the words are no command.
abbrev pub recover_meaning : Meaning
recover_meaning = record {
  is_usage = ⊥;
  asks_disk = Unit {0};
  writes = true;
  takes_memory = Unit {0};
  is_done = λ disk. IsRecoverable (put_back disk);
  is_due = λ disk. IsRecoverable (put_back disk);
  is_text = IsRecoverText;
  answers = λ disk. RefusesRecover (put_back disk);
  knows = IsRecoverAnswer;
  keeps = λ disk status. (status ≡ 1) ⊎ ((status ≡ 2) ⊎ (status ≡ 4));
  first = IsSyncedBack;
  lacking = λ disk other. other ≡ put_back disk;
  starved = λ disk other. other ≡ put_back disk;
  becomes = IsRecoveredWhole;
  leaves = IsRecoverLeftWhole;
  order = RewritesBeforeCopies;
}
