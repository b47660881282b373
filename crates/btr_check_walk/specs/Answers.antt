-- What an answer of the check says of a volume.
use Rattle.std.specs.Prelude.{◌≡◌, ◌≢◌, ℕ, Contains}
use Rattle.btr_check_rules.specs.btr_reader.btr_space_items.btrfs_format.declared.block.TheConstants.{SUPER_BLOCK}
use Rattle.btr_check_rules.specs.btr_reader.Opening.{opening_refusals}
use Rattle.btr_check_rules.specs.btr_reader.Parts.{own_super}
use Rattle.btr_check_rules.specs.btr_reader.outside.History.{Image, block_at}
use Rattle.btr_check_rules.specs.btr_reader.refusals.declared.refusal.BtrRefusal.{BtrRefusal}
use Rattle.btr_check_rules.specs.btr_reader.refusals.declared.refusal.BtrRefusal.TheVariants.{BadBtrfs, LogPending, Unsupported}
use Rattle.btr_check_rules.specs.btr_reader.vol_block.Format.{format}
use Rattle.btr_check_rules.specs.btr_reader.vol_block.declared.format.Format.TheVariants.{Reiser}
use Rattle.btr_check_rules.specs.Sound.{FailsAt, SoundPart, part_number}
use Rattle.btr_check_walk.specs.Parts.{TellsPart}
use Rattle.command_answers.specs.declared.answer.Answer.{Answer}
use Rattle.command_answers.specs.declared.answer.Answer.TheVariants as answers

-- a part with this number fails there
abbrev pub FailsIn : Image → ℕ → ℕ → Type 0
FailsIn image number address = (part : SoundPart) × (part_number part ≡ number) × FailsAt image part address

-- What a pass over an opened volume may answer: where a part fails, a fault, or want of memory.
abbrev pub IsPassAnswer : Image → Answer → Type 0
IsPassAnswer image answer = TellsPart (FailsIn image) answer

-- What Linux does not open is refused as it is where the volume is listed: a log tree first.
abbrev pub IsOpeningAnswer : Image → BtrRefusal → Type 0
IsOpeningAnswer image (BadBtrfs address rule) = Contains (opening_refusals image) (BadBtrfs address rule)
IsOpeningAnswer image (Unsupported feature value) = Contains (opening_refusals image) (Unsupported feature value)
IsOpeningAnswer image (LogPending address) = (address ≡ (own_super image).log_root) × (address ≢ 0)

-- What the check of a whole volume may answer.
abbrev pub IsCheckAnswer : Image → Answer → Type 0
IsCheckAnswer image (answers.Volume refusal) = ⊥
IsCheckAnswer image (answers.Btr refusal) = IsOpeningAnswer image refusal
IsCheckAnswer image (answers.NoSpace needed free run_needed longest_run) = ⊥
IsCheckAnswer image answers.WrongFormat = format (block_at image SUPER_BLOCK) ≡ Reiser
IsCheckAnswer image answers.ImageMissing = ⊥
IsCheckAnswer image (answers.ImageMoved block) = ⊥
IsCheckAnswer image (answers.ImageDamaged refusal) = ⊥
IsCheckAnswer image (answers.ReservedUsed block) = ⊥
IsCheckAnswer image (answers.NotSound part address) = FailsIn image part address
IsCheckAnswer image (answers.ImageShared tree) = ⊥
IsCheckAnswer image answers.Fault = Unit {0}
IsCheckAnswer image answers.Memory = Unit {0}
