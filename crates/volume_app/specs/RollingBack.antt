-- What `rollback` answers, prints and writes.
use Rattle.std.specs.Prelude.{◌≡◌, ◌⊎◌, ℕ, List, [], ◌∷◌, codes, decimal, true}
use Rattle.reiser_volume.specs.outside.History.{Image}
use Rattle.rollback_core.specs.RollbackAnswers.{IsRollbackAnswer, RefusesRollback}
use Rattle.rollback_core.specs.RolledBack.{IsLeftByRollback, IsRolledBack, rollback_summary}
use Rattle.volume_state.specs.GoingBack.{CanGoBack}
use Rattle.volume_app.specs.Meaning.{AnyOrder, IsSame, IsSyncedAlone, Meaning}
use Rattle.volume_app.specs.Texts.{text_of_lines}
use Rattle.volume_app.specs.Trees.{IsRestoredTree, LeavesRestoredTree}
use Rattle.rollback_core.specs.declared.way.RollbackSummary.{RollbackSummary}

abbrev pub rollback_lines : RollbackSummary → List (List ℕ × List (List ℕ))
rollback_lines told =
    (codes "rolled", codes "back" ∷ codes "to" ∷ codes "reiserfs" ∷ [])
    ∷ (codes "blocks", decimal told.blocks ∷ [])
    ∷ (codes "restored", decimal told.restored ∷ [])
    ∷ []

abbrev pub rollback_text : RollbackSummary → List ℕ
rollback_text told = text_of_lines (rollback_lines told)

-- the text for a disk: how many blocks the old volume uses, and how many of them are restored
abbrev pub IsRollbackText : Image → List ℕ → Type 0
IsRollbackText disk text = text ≡ rollback_text (rollback_summary disk)

-- the volume is rolled back, and its tree is that of the saved image
pub record IsRolledBackWhole (disk other : Image) : Type 0 where
  pub rolled_back : IsRolledBack disk other
  pub tree : IsRestoredTree disk other

-- the Btrfs volume or the old one stands, with its tree
pub record IsRollbackLeftWhole (disk other : Image) : Type 0 where
  pub left : IsLeftByRollback disk other
  pub tree : LeavesRestoredTree disk other

-- What `rollback` means. Nothing is written where it is refused, memory is short, or the words are no command.
abbrev pub rollback_meaning : Meaning
rollback_meaning = record {
  is_usage = ⊥;
  asks_disk = Unit {0};
  writes = true;
  takes_memory = Unit {0};
  is_done = CanGoBack;
  is_due = CanGoBack;
  is_text = IsRollbackText;
  answers = RefusesRollback;
  knows = IsRollbackAnswer;
  keeps = λ disk status. (status ≡ 1) ⊎ ((status ≡ 2) ⊎ (status ≡ 4));
  first = IsSyncedAlone;
  lacking = IsSame;
  starved = IsSame;
  becomes = IsRolledBackWhole;
  leaves = IsRollbackLeftWhole;
  order = AnyOrder;
}
