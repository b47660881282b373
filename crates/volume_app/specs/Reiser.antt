-- What `inspect` tells of a ReiserFS volume and prints of it, and what `list` makes of one.
use Rattle.std.specs.Prelude.{◌≡◌, ℕ, ◌+◌, Bool, List, [], ◌∷◌, length, map, codes, decimal, nat_eq}
use Rattle.std.specs.List.{before_first}
use Rattle.uuid.specs.Text.{hyphenated_text, lower}
use Rattle.reiser_volume.specs.fs_rows.Rows.{WholeRow, row_of}
use Rattle.reiser_volume.specs.fs_rows.declared.row.Row.{Row}
use Rattle.reiser_volume.specs.outside.History.{Image}
use Rattle.reiser_volume.specs.reiser_super.declared.superblock.Super.{Super}
use Rattle.reiser_volume.specs.reiser_bitmap.Bits.{used_blocks}
use Rattle.reiser_volume.specs.reiser_bitmap.Units.{free_units}
use Rattle.reiser_volume.specs.Volume.{superblock, used_of, AreRowsOf, IsAccepted}
use Rattle.unit_plan.specs.declared.need.Need.{Need}
use Rattle.unit_plan.specs.convert_options.declared.options.Options.{Options}
use Rattle.convert_core.specs.declared.survey.Survey.{Survey}
use Rattle.convert_core.specs.Surveyed.{IsSurvey}
use Rattle.volume_app.specs.declared.reiser.ReiserSummary.{ReiserSummary}
use Rattle.sink_text.specs.Escape.{escaped}
use Rattle.volume_app.specs.Texts.{text_of_lines}

-- what is told, by the superblock, the bitmap and the space that a conversion needs
abbrev pub summary_with : Super → List Bool → Need → ReiserSummary
summary_with s used need =
    record {
      superblock = s;
      used = length (used_blocks used);
      units = length (free_units used);
      needed = need.system + need.metadata + need.data_;
      run = need.system;
    }

-- what is told of a disk: the space is that of a conversion with these options
pub record IsReiserSummary (o : Options) (disk : Image) (told : ReiserSummary) : Type 0 where
  pub survey : Survey
  pub surveyed : IsSurvey o disk survey
  pub is : told ≡ summary_with (superblock disk) (used_of disk) survey.need

-- a label ends before its first zero byte
abbrev pub label_of : List ℕ → List ℕ
label_of bytes = before_first (λ c. nat_eq c 0) bytes

-- a dash for an empty label, else the label with its bytes escaped
abbrev pub label_text : List ℕ → List ℕ
label_text [] = codes "-"
label_text (c ∷ cs) = escaped (c ∷ cs)

abbrev pub summary_lines : ReiserSummary → List (List ℕ × List (List ℕ))
summary_lines told =
    let s = told.superblock in
    (codes "format", codes "reiserfs" ∷ [])
    ∷ (codes "blocks", decimal s.blocks ∷ [])
    ∷ (codes "free", decimal s.free ∷ [])
    ∷ (codes "root", decimal s.root ∷ [])
    ∷ (codes "height", decimal s.height ∷ [])
    ∷ (codes "journal", decimal s.journal_first ∷ decimal s.journal_size ∷ [])
    ∷ (codes "uuid", hyphenated_text lower s.uuid ∷ [])
    ∷ (codes "label", label_text (label_of s.label) ∷ [])
    ∷ (codes "used", decimal told.used ∷ [])
    ∷ (codes "units", decimal told.units ∷ [])
    ∷ (codes "needed", decimal told.needed ∷ [])
    ∷ (codes "run", decimal told.run ∷ [])
    ∷ []

abbrev pub summary_text : ReiserSummary → List ℕ
summary_text told = text_of_lines (summary_lines told)

-- the text of a disk
pub record IsReiserText (o : Options) (disk : Image) (text : List ℕ) : Type 0 where
  pub told : ReiserSummary
  pub summary : IsReiserSummary o disk told
  pub is : text ≡ summary_text told

-- the volume is accepted, and these are its rows as the program has them
abbrev pub ListsReiser : Image → List Row → Type 0
ListsReiser disk rows = IsAccepted disk × ((whole : List WholeRow) × AreRowsOf disk whole × (rows ≡ map row_of whole))
