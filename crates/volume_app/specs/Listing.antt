-- What `list` answers and prints, by the format of the disk.
use Rattle.std.specs.Prelude.{◌≡◌, ◌≢◌, ◌⊎◌, ℕ, List, map}
use Rattle.reiser_volume.specs.vol_block.declared.format.Format.{Format}
use Rattle.reiser_volume.specs.vol_block.declared.format.Format.TheVariants.{Reiser, Btrfs, Neither}
use Rattle.reiser_volume.specs.fs_rows.Rows.{WholeRow, row_of}
use Rattle.reiser_volume.specs.fs_rows.Text.{rows_text}
use Rattle.reiser_volume.specs.fs_rows.declared.row.Row.{Row}
use Rattle.reiser_volume.specs.reiser_volume_contents.Answers.{IsChanged}
use Rattle.reiser_volume.specs.outside.History.{Image}
use Rattle.convert_core.specs.command_answers.declared.answer.Answer.{Answer}
use Rattle.convert_core.specs.command_answers.declared.answer.Answer.TheVariants.{Volume, Btr, NoSpace, WrongFormat, ImageMissing, ImageMoved, ImageDamaged, ReservedUsed, NotSound, ImageShared, Fault, Memory}
use Rattle.reiser_volume.specs.Answers.{NamesVolumeRule}
use Rattle.reiser_volume.specs.Volume.{AreRowsOf, IsAccepted, IsRefusal}
use Rattle.btr_reader.specs.Parts.{HasBtrfsRows, AreRowsOfBtrfs, IsRowsRefusal}
use Rattle.reiser_volume.specs.outside.Format.{format_in}
use Rattle.volume_app.specs.Meaning.{Meaning, reads_disk}

-- a volume of this format that `list` reads
abbrev pub IsListable : Format → Image → Type 0
IsListable Reiser disk = IsAccepted disk
IsListable Btrfs disk = HasBtrfsRows disk
IsListable Neither disk = ⊥

-- the rows of a volume of this format
abbrev pub AreRowsIn : Format → Image → List WholeRow → Type 0
AreRowsIn Reiser disk whole = AreRowsOf disk whole
AreRowsIn Btrfs disk whole = AreRowsOfBtrfs disk whole
AreRowsIn Neither disk whole = ⊥

-- the text of a disk
abbrev pub IsListText : Image → List ℕ → Type 0
IsListText disk text = (whole : List WholeRow) × AreRowsIn (format_in disk) disk whole × (text ≡ rows_text (map row_of whole))

-- the rows that the program has are those of the disk
pub record Lists (disk : Image) (rows : List Row) : Type 0 where
  pub listable : IsListable (format_in disk) disk
  pub whole : List WholeRow
  pub are_rows : AreRowsIn (format_in disk) disk whole
  pub seen : rows ≡ map row_of whole

-- `list` may refuse a disk so; that a device failed or memory was short is said elsewhere
abbrev pub ListRefuses : Image → Answer → Type 0
ListRefuses disk (Volume refusal) = (format_in disk ≢ Btrfs) × IsRefusal disk refusal
ListRefuses disk (Btr refusal) = (format_in disk ≡ Btrfs) × IsRowsRefusal disk refusal
ListRefuses disk Fault = Unit {0}
ListRefuses disk Memory = Unit {0}
ListRefuses disk WrongFormat = ⊥
ListRefuses disk (NoSpace needed free run_needed longest_run) = ⊥
ListRefuses disk ImageMissing = ⊥
ListRefuses disk (ImageMoved block) = ⊥
ListRefuses disk (ImageDamaged refusal) = ⊥
ListRefuses disk (ReservedUsed block) = ⊥
ListRefuses disk (NotSound part address) = ⊥
ListRefuses disk (ImageShared tree) = ⊥

-- The answers that `list` knows, whatever the disk gives.
abbrev pub IsListAnswer : Answer → Type 0
IsListAnswer (Volume refusal) = NamesVolumeRule refusal ⊎ IsChanged refusal
IsListAnswer (Btr refusal) = Unit {0}
IsListAnswer Fault = Unit {0}
IsListAnswer Memory = Unit {0}
IsListAnswer WrongFormat = ⊥
IsListAnswer (NoSpace needed free run_needed longest_run) = ⊥
IsListAnswer ImageMissing = ⊥
IsListAnswer (ImageMoved block) = ⊥
IsListAnswer (ImageDamaged refusal) = ⊥
IsListAnswer (ReservedUsed block) = ⊥
IsListAnswer (NotSound part address) = ⊥
IsListAnswer (ImageShared tree) = ⊥

-- what `list` means
abbrev pub list_meaning : Meaning
list_meaning = reads_disk (λ disk. IsListable (format_in disk) disk) IsListText ListRefuses IsListAnswer
