-- The parts of what a sound volume is, as answers tell them.
use Rattle.std.specs.Prelude.{◌≡◌, ℕ, List, Contains}
use Rattle.btr_check_rules.specs.btr_reader.refusals.declared.refusal.BtrRefusal.{BtrRefusal}
use Rattle.btr_check_rules.specs.btr_reader.refusals.declared.answer.BtrAnswer.{BtrAnswer}
use Rattle.btr_check_rules.specs.btr_reader.refusals.declared.answer.BtrAnswer.TheVariants as walks
use Rattle.btr_check_rules.specs.Sound.{SoundPart, Trees, Files, References, Placement, Checksums, BlockGroups, Chunks, Reserved, Totals, FreeSpace, part_number}
use Rattle.btr_check_rules.specs.Trees.{refused_at}
use Rattle.btr_check_walk.specs.declared.parts.SoundPart.{SoundPart as Part}
use Rattle.btr_check_walk.specs.declared.parts.SoundPart.TheVariants as parts
use Rattle.command_answers.specs.declared.answer.Answer.{Answer}
use Rattle.command_answers.specs.declared.answer.Answer.TheVariants as answers

-- the part of the definition
abbrev pub part_value : Part → SoundPart
part_value parts.Trees = Trees
part_value parts.Files = Files
part_value parts.References = References
part_value parts.Placement = Placement
part_value parts.Checksums = Checksums
part_value parts.BlockGroups = BlockGroups
part_value parts.Chunks = Chunks
part_value parts.Reserved = Reserved
part_value parts.Totals = Totals
part_value parts.FreeSpace = FreeSpace

-- where a call on the nodes of a tree ended so
abbrev pub tree_answer : BtrAnswer → Answer
tree_answer (walks.Refused refusal) = answers.NotSound (part_number Trees) (refused_at refusal)
tree_answer walks.Fault = answers.Fault
tree_answer walks.Memory = answers.Memory

-- The answer tells a part and an address for which P holds; or that a call failed, where that may be; or that there was
-- no memory.
abbrev pub TellsBy : (ℕ → ℕ → Type 0) → Type 0 → Answer → Type 0
TellsBy P faults (answers.Volume refusal) = ⊥
TellsBy P faults (answers.Btr refusal) = ⊥
TellsBy P faults (answers.NoSpace needed free run_needed longest_run) = ⊥
TellsBy P faults answers.WrongFormat = ⊥
TellsBy P faults answers.ImageMissing = ⊥
TellsBy P faults (answers.ImageMoved block) = ⊥
TellsBy P faults (answers.ImageDamaged refusal) = ⊥
TellsBy P faults (answers.ReservedUsed block) = ⊥
TellsBy P faults (answers.NotSound part address) = P part address
TellsBy P faults (answers.ImageShared tree) = ⊥
TellsBy P faults answers.Fault = faults
TellsBy P faults answers.Memory = Unit {0}

abbrev pub TellsPart : (ℕ → ℕ → Type 0) → Answer → Type 0
TellsPart P answer = TellsBy P (Unit {0}) answer

-- it tells some part and address, or that a call failed, or that there was no memory
abbrev pub IsPartAnswer : Answer → Type 0
IsPartAnswer answer = TellsPart (λ part address. Unit {0}) answer

-- the same of what reads nothing
abbrev pub IsVisitAnswer : Answer → Type 0
IsVisitAnswer answer = TellsBy (λ part address. Unit {0}) ⊥ answer

-- part 1 fails at an address at which one of these is
abbrev pub BreaksTrees : List BtrRefusal → ℕ → ℕ → Type 0
BreaksTrees refusals part address = (part ≡ part_number Trees) × ((refusal : BtrRefusal) × Contains refusals refusal × (refused_at refusal ≡ address))
