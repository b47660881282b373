-- What a conversion may answer.
use Rattle.std.specs.Prelude.{◌≡◌, ◌≢◌, ℕ}
use Rattle.reiser_volume.specs.outside.Format.{format_in}
use Rattle.reiser_volume.specs.outside.History.{Image}
use Rattle.convert_steps.specs.command_answers.declared.answer.Answer.{Answer}
use Rattle.convert_steps.specs.command_answers.declared.answer.Answer.TheVariants as answer
use Rattle.reiser_volume.specs.refusals.declared.refusal.VolumeRefusal.TheVariants.{Damaged}
use Rattle.reiser_volume.specs.refusals.declared.rule.Rule.TheVariants.{Reread}
use Rattle.btr_tree_writer.specs.declared.answer.WriteAnswer.{WriteAnswer}
use Rattle.btr_tree_writer.specs.declared.answer.WriteAnswer.TheVariants as writer
use Rattle.unit_plan.specs.convert_options.declared.options.Options.{Options}
use Rattle.reiser_volume.specs.vol_block.declared.format.Format.TheVariants.{Btrfs}
use Rattle.convert_steps.specs.Prepared.{LacksSpace}
use Rattle.reiser_volume.specs.Volume.{IsRefusal}

-- The answer where a disk is not converted: it has a Btrfs volume, its ReiserFS volume keeps not all rules, or has not the space.
abbrev pub RefusesConvert : Options → Image → Answer → Type 0
RefusesConvert o image (answer.Volume r) = (format_in image ≢ Btrfs) × IsRefusal image r
RefusesConvert o image (answer.Btr r) = ⊥
RefusesConvert o image (answer.NoSpace needed free run_needed longest) = (format_in image ≢ Btrfs) × LacksSpace image o needed free run_needed longest
RefusesConvert o image answer.WrongFormat = format_in image ≡ Btrfs
RefusesConvert o image answer.ImageMissing = ⊥
RefusesConvert o image (answer.ImageMoved block) = ⊥
RefusesConvert o image (answer.ImageDamaged r) = ⊥
RefusesConvert o image (answer.ReservedUsed block) = ⊥
RefusesConvert o image (answer.NotSound part address) = ⊥
RefusesConvert o image (answer.ImageShared tree) = ⊥
RefusesConvert o image answer.Fault = Unit {0}
RefusesConvert o image answer.Memory = Unit {0}

-- what may be answered whatever the disk gives
abbrev pub IsConvertAnswer : Answer → Type 0
IsConvertAnswer (answer.Volume r) = Unit {0}
IsConvertAnswer (answer.Btr r) = ⊥
IsConvertAnswer (answer.NoSpace needed free run_needed longest) = Unit {0}
IsConvertAnswer answer.WrongFormat = Unit {0}
IsConvertAnswer answer.ImageMissing = ⊥
IsConvertAnswer (answer.ImageMoved block) = ⊥
IsConvertAnswer (answer.ImageDamaged r) = ⊥
IsConvertAnswer (answer.ReservedUsed block) = ⊥
IsConvertAnswer (answer.NotSound part address) = ⊥
IsConvertAnswer (answer.ImageShared tree) = ⊥
IsConvertAnswer answer.Fault = Unit {0}
IsConvertAnswer answer.Memory = Unit {0}

-- The answer by that of a tree that was not written, of a volume whose tree begins at this block.
abbrev pub by_writer : ℕ → WriteAnswer → Answer
by_writer root (writer.Refused r) = answer.Volume r
by_writer root writer.Misfit = answer.Volume (Damaged root Reread)
by_writer root writer.Fault = answer.Fault
by_writer root writer.Memory = answer.Memory
