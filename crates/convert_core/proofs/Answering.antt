-- The answers of the steps as those of the conversion.
use Rattle.convert_core.proofs.Imports.{◌≡◌, ◌⊎◌, ℕ, inl, inr, refl, ap, ⊎_elim, IsPrepareAnswer, by_writer}
use Rattle.reiser_volume.specs.reiser_volume_contents.Answers.{IsFault}
use Rattle.convert_steps.specs.command_answers.Answers.{of_volume}
use Rattle.reiser_volume.specs.refusals.declared.answer.VolAnswer.{VolAnswer}
use Rattle.btr_tree_writer.specs.Answers.{IsFailure}
use Rattle.btr_tree_writer.specs.declared.answer.WriteAnswer.{WriteAnswer}
use Rattle.convert_steps.specs.command_answers.declared.answer.Answer.TheVariants as answer
use Rattle.reiser_volume.specs.refusals.declared.answer.VolAnswer.TheVariants as vol
use Rattle.btr_tree_writer.specs.declared.answer.WriteAnswer.TheVariants as writer

pub fault_of_volume : (a : VolAnswer) → IsFault a → of_volume a ≡ answer.Fault
fault_of_volume (vol.Refused r) is = absurd is
fault_of_volume vol.Fault is = refl
fault_of_volume vol.Memory is = absurd is

pub prepares_by_writer : (root : ℕ) (a : WriteAnswer) → IsPrepareAnswer (by_writer root a)
prepares_by_writer root (writer.Refused r) = tt
prepares_by_writer root writer.Misfit = tt
prepares_by_writer root writer.Fault = tt
prepares_by_writer root writer.Memory = tt

pub failure_of_writer : (root : ℕ) (a : WriteAnswer) → IsFailure a → (by_writer root a ≡ answer.Fault) ⊎ (by_writer root a ≡ answer.Memory)
failure_of_writer root a is = ⊎_elim (λ fault. inl (ap (by_writer root) fault)) (λ memory. inr (ap (by_writer root) memory)) is
