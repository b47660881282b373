-- A disk has one text.
use Rattle.volume_app.proofs.Imports.{◌≡◌, ◌∙◌, ℕ, List, map, sym, ap, Format, format_in, Image, superblock, used_of, Survey, surveys_are_one, Options, ReiserSummary, IsInspectText, InspectTextsAreOne, ListTextsAreOne, IsReiserSummary, summary_text, WholeRow, row_of, rows_text, RowsAreOne, AreRowsIn, IsListable}
use Rattle.volume_app.specs.Reiser.{summary_with}
use Rattle.btr_reader.specs.Laws.{BtrfsRowsAreOne}
use Rattle.reiser_volume.specs.vol_block.declared.format.Format.TheVariants as formats

summaries_are_one : (o : Options) (disk : Image) (told other : ReiserSummary) → IsReiserSummary o disk told → IsReiserSummary o disk other → told ≡ other
summaries_are_one o disk told other a b =
    a.is
    ∙ (ap (λ (s : Survey). summary_with (superblock disk) (used_of disk) s.need) (surveys_are_one o disk a.survey b.survey a.surveyed b.surveyed)
    ∙ sym b.is)

by_format : (o : Options) (format : Format) (disk : Image) (text other : List ℕ) → IsInspectText o format disk text → IsInspectText o format disk other → text ≡ other
by_format o formats.Reiser disk text other a b =
    a.is ∙ (ap (λ (s : ReiserSummary). summary_text s) (summaries_are_one o disk a.told b.told a.summary b.summary) ∙ sym b.is)
by_format o formats.Btrfs disk text other a b = a ∙ sym b
by_format o formats.Neither disk text other a b = a ∙ sym b

pub inspect_texts_are_one : InspectTextsAreOne
inspect_texts_are_one o disk text other a b = by_format o (format_in disk) disk text other a b

-- ---- list

rows_in_one : RowsAreOne → BtrfsRowsAreOne → (format : Format) (disk : Image) (rows others : List WholeRow) → IsListable format disk → AreRowsIn format disk rows → AreRowsIn format disk others → rows ≡ others
rows_in_one reiser btrfs formats.Reiser disk rows others is a b = reiser disk is rows others a b
rows_in_one reiser btrfs formats.Btrfs disk rows others is a b = btrfs disk _ _ rows others a b
rows_in_one reiser btrfs formats.Neither disk rows others is a b = absurd is

pub list_texts_are_one : RowsAreOne → BtrfsRowsAreOne → ListTextsAreOne
list_texts_are_one reiser btrfs disk text other is a b =
    a.2 ∙ (ap (λ (whole : List WholeRow). rows_text (map row_of whole)) (rows_in_one reiser btrfs (format_in disk) disk a.0 b.0 is a.1 b.1) ∙ sym b.2)
