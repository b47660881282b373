-- What an answer tells, weakened.
use Rattle.btr_check_walk.proofs.Imports.{ℕ, TellsBy, TellsPart, IsPartAnswer, IsVisitAnswer, Answer}
use Rattle.command_answers.specs.declared.answer.Answer.TheVariants as answers

told_by : (P Q : ℕ → ℕ → Type 0) (before now : Type 0) → ((part a : ℕ) → P part a → Q part a) → (before → now) → (e : Answer) → TellsBy P before e → TellsBy Q now e
told_by P Q before now weaker fault (answers.Volume refusal) told = told
told_by P Q before now weaker fault (answers.Btr refusal) told = told
told_by P Q before now weaker fault (answers.NoSpace needed free run_needed longest_run) told = told
told_by P Q before now weaker fault answers.WrongFormat told = told
told_by P Q before now weaker fault answers.ImageMissing told = told
told_by P Q before now weaker fault (answers.ImageMoved block) told = told
told_by P Q before now weaker fault (answers.ImageDamaged refusal) told = told
told_by P Q before now weaker fault (answers.ReservedUsed block) told = told
told_by P Q before now weaker fault (answers.NotSound part address) told = weaker part address told
told_by P Q before now weaker fault (answers.ImageShared tree) told = told
told_by P Q before now weaker fault answers.Fault told = fault told
told_by P Q before now weaker fault answers.Memory told = told

pub tells_weaker : (P Q : ℕ → ℕ → Type 0) → ((part a : ℕ) → P part a → Q part a) → (e : Answer) → TellsPart P e → TellsPart Q e
tells_weaker P Q weaker e told = told_by P Q (Unit {0}) (Unit {0}) weaker (λ fault. fault) e told

-- what tells no fault is an answer of a pass
pub visit_part : (e : Answer) → IsVisitAnswer e → IsPartAnswer e
visit_part e told = told_by (λ part address. Unit {0}) (λ part address. Unit {0}) ⊥ (Unit {0}) (λ part a is. is) (λ none. absurd none) e told
