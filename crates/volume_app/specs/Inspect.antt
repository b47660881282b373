-- What `inspect` answers and prints, by the format of the disk.
use Rattle.reiser_volume.specs.reiser_volume_contents.Answers.{IsChanged}
use Rattle.std.specs.Prelude.{◌≡◌, ◌⊎◌, ◌≢◌, ℕ, List, []}
use Rattle.reiser_volume.specs.vol_block.declared.format.Format.{Format}
use Rattle.reiser_volume.specs.vol_block.declared.format.Format.TheVariants as formats
use Rattle.reiser_volume.specs.outside.History.{Image}
use Rattle.unit_plan.specs.convert_options.declared.options.Options.{Options}
use Rattle.convert_core.specs.command_answers.declared.answer.Answer.{Answer}
use Rattle.convert_core.specs.command_answers.declared.answer.Answer.TheVariants.{Volume, Btr, NoSpace, WrongFormat, ImageMissing, ImageMoved, ImageDamaged, ReservedUsed, NotSound, ImageShared, Fault, Memory}
use Rattle.reiser_volume.specs.Answers.{NamesVolumeRule}
use Rattle.reiser_volume.specs.Volume.{IsAccepted, IsRefusal}
use Rattle.btr_reader.specs.Parts.{SavedImage, IsReadable, IsBtrfsRefusal}
use Rattle.btr_reader.specs.btr_super.Rules.{NamesNoLog}
use Rattle.volume_app.specs.Text.{btrfs_text, summary_text as btrfs_summary_text}
use Rattle.volume_app.specs.declared.inspect.Inspected.{Inspected}
use Rattle.volume_app.specs.declared.inspect.Inspected.TheVariants.{Reiser, Btrfs}
use Rattle.reiser_volume.specs.outside.Format.{format_in}
use Rattle.volume_app.specs.Meaning.{Meaning, reads_disk}
use Rattle.volume_app.specs.Reiser.{IsReiserText, summary_text}

-- a volume of this format of which `inspect` tells
abbrev pub IsInspectable : Format → Image → Type 0
IsInspectable formats.Reiser disk = IsAccepted disk
IsInspectable formats.Btrfs disk = IsReadable disk SavedImage
IsInspectable formats.Neither disk = ⊥

-- what it prints of a volume of this format, for a conversion with these options
abbrev pub IsInspectText : Options → Format → Image → List ℕ → Type 0
IsInspectText o formats.Reiser disk text = IsReiserText o disk text
IsInspectText o formats.Btrfs disk text = text ≡ btrfs_text disk
IsInspectText o formats.Neither disk text = text ≡ []

-- the text of what was found
abbrev pub inspected_text : Inspected → List ℕ
inspected_text (Reiser told) = summary_text told
inspected_text (Btrfs told) = btrfs_summary_text told

-- what was found is what is to be printed of the disk
pub record Inspects (o : Options) (disk : Image) (found : Inspected) : Type 0 where
  pub inspectable : IsInspectable (format_in disk) disk
  pub text : IsInspectText o (format_in disk) disk (inspected_text found)

-- `inspect` may refuse a disk so; that a device failed or memory was short is said elsewhere
abbrev pub InspectRefuses : Image → Answer → Type 0
InspectRefuses disk (Volume refusal) = (format_in disk ≢ formats.Btrfs) × IsRefusal disk refusal
InspectRefuses disk (Btr refusal) = (format_in disk ≡ formats.Btrfs) × IsBtrfsRefusal disk SavedImage refusal
InspectRefuses disk Fault = Unit {0}
InspectRefuses disk Memory = Unit {0}
InspectRefuses disk WrongFormat = ⊥
InspectRefuses disk (NoSpace needed free run_needed longest_run) = ⊥
InspectRefuses disk ImageMissing = ⊥
InspectRefuses disk (ImageMoved block) = ⊥
InspectRefuses disk (ImageDamaged refusal) = ⊥
InspectRefuses disk (ReservedUsed block) = ⊥
InspectRefuses disk (NotSound part address) = ⊥
InspectRefuses disk (ImageShared tree) = ⊥

-- The answers that `inspect` knows, whatever the disk gives: its refusals are those of volumes, or that a block reads otherwise
-- than before, and name no log tree.
abbrev pub IsInspectAnswer : Answer → Type 0
IsInspectAnswer (Volume refusal) = NamesVolumeRule refusal ⊎ IsChanged refusal
IsInspectAnswer (Btr refusal) = NamesNoLog refusal
IsInspectAnswer Fault = Unit {0}
IsInspectAnswer Memory = Unit {0}
IsInspectAnswer WrongFormat = ⊥
IsInspectAnswer (NoSpace needed free run_needed longest_run) = ⊥
IsInspectAnswer ImageMissing = ⊥
IsInspectAnswer (ImageMoved block) = ⊥
IsInspectAnswer (ImageDamaged refusal) = ⊥
IsInspectAnswer (ReservedUsed block) = ⊥
IsInspectAnswer (NotSound part address) = ⊥
IsInspectAnswer (ImageShared tree) = ⊥

-- what `inspect` with these options means
abbrev pub inspect_meaning : Options → Meaning
inspect_meaning o =
    reads_disk (λ disk. IsInspectable (format_in disk) disk) (λ disk text. IsInspectText o (format_in disk) disk text) InspectRefuses IsInspectAnswer
