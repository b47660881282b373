-- What `convert` answers, prints and writes.
use Rattle.std.specs.Prelude.{◌≡◌, ◌⊎◌, ℕ, true, List, [], ◌∷◌, codes, decimal}
use Rattle.convert_core.specs.Answers.{IsConvertAnswer, RefusesConvert}
use Rattle.convert_core.specs.Converted.{DiffersInFree, IsConvertPlace, IsConverted, IsConvertible, IsLeftByConvert}
use Rattle.convert_core.specs.Surveyed.{IsSummary}
use Rattle.convert_core.specs.declared.summary.ConvertSummary.{ConvertSummary}
use Rattle.reiser_volume.specs.outside.History.{History, Image, WritesOnly, reads}
use Rattle.unit_plan.specs.convert_options.declared.options.Options.{Options}
use Rattle.reiser_volume.specs.vol_block.declared.ids.Ids.{Ids}
use Rattle.volume_app.specs.Meaning.{IsSyncedBack, Meaning}
use Rattle.super_turn.specs.PutBack.{put_back}
use Rattle.volume_app.specs.Texts.{text_of_lines}
use Rattle.volume_app.specs.Trees.{AreBlocks, IsConvertedTree, LeavesConvertedTree}

abbrev pub convert_lines : ConvertSummary → List (List ℕ × List (List ℕ))
convert_lines told =
    (codes "converted", codes "to" ∷ codes "btrfs" ∷ [])
    ∷ (codes "pieces", decimal told.pieces ∷ [])
    ∷ (codes "blocks", decimal told.blocks ∷ [])
    ∷ (codes "copied", decimal told.copied ∷ [])
    ∷ (codes "tails", decimal told.tails ∷ [])
    ∷ (codes "units", decimal told.units ∷ [])
    ∷ []

abbrev pub convert_text : ConvertSummary → List ℕ
convert_text told = text_of_lines (convert_lines told)

-- the text for a disk
abbrev pub IsConvertText : Options → Image → List ℕ → Type 0
IsConvertText o disk text = (told : ConvertSummary) × IsSummary o disk told × (text ≡ convert_text told)

-- the volume is converted, once its block 16 is put back, and its tree is as before
pub record IsConvertedWhole (o : Options) (ids : Ids) (now : ℕ) (disk other : Image) : Type 0 where
  pub converted : IsConverted o ids now (put_back disk) other
  pub tree : AreBlocks disk → IsConvertedTree (put_back disk) other

-- the old volume or the new one stands, with its tree
pub record IsEitherWhole (o : Options) (ids : Ids) (now : ℕ) (disk other : Image) : Type 0 where
  pub either : IsLeftByConvert o ids now disk other
  pub tree : AreBlocks disk → LeavesConvertedTree disk other

-- where it writes
abbrev pub WritesConvertPlaces : History → History → Type 0
WritesConvertPlaces old new = WritesOnly (λ b bytes. IsConvertPlace (put_back (reads old)) b) old new

-- What `convert` with these options means, for these identifiers and at this time. Nothing is written where the volume is refused,
-- has too little space, or the words are no command, but a block 16 that was half turned, and only free units of the volume where memory
-- ran out.
abbrev pub convert_meaning : Ids → ℕ → Options → Meaning
convert_meaning ids now o = record {
  is_usage = ⊥;
  asks_disk = Unit {0};
  writes = true;
  takes_memory = Unit {0};
  is_done = λ disk. IsConvertible o (put_back disk);
  is_due = λ disk. IsConvertible o (put_back disk);
  is_text = λ disk. IsConvertText o (put_back disk);
  answers = λ disk. RefusesConvert o (put_back disk);
  knows = IsConvertAnswer;
  keeps = λ disk status. (status ≡ 1) ⊎ ((status ≡ 2) ⊎ (status ≡ 6));
  first = IsSyncedBack;
  lacking = λ disk other. other ≡ put_back disk;
  starved = λ disk. DiffersInFree (put_back disk);
  becomes = IsConvertedWhole o ids now;
  leaves = IsEitherWhole o ids now;
  order = WritesConvertPlaces;
}
