-- What an answer tells, by a weaker relation.
use Rattle.btr_check_trees.proofs.Imports.{ℕ, TellsBy, TellsPart, Answer}
use Rattle.btr_check_walk.specs.command_answers.declared.answer.Answer.TheVariants as answers

-- where no call failed, or one may have
pub tells_from : (P Q : ℕ → ℕ → Type 0) (faults : Type 0) → ((part a : ℕ) → P part a → Q part a) → (e : Answer) → TellsBy P faults e → TellsPart Q e
tells_from P Q faults weaker (answers.Volume refusal) told = told
tells_from P Q faults weaker (answers.Btr refusal) told = told
tells_from P Q faults weaker (answers.NoSpace needed free run_needed longest_run) told = told
tells_from P Q faults weaker answers.WrongFormat told = told
tells_from P Q faults weaker answers.ImageMissing told = told
tells_from P Q faults weaker (answers.ImageMoved block) told = told
tells_from P Q faults weaker (answers.ImageDamaged refusal) told = told
tells_from P Q faults weaker (answers.ReservedUsed block) told = told
tells_from P Q faults weaker (answers.NotSound part address) told = weaker part address told
tells_from P Q faults weaker (answers.ImageShared tree) told = told
tells_from P Q faults weaker answers.Fault told = tt
tells_from P Q faults weaker answers.Memory told = tt
