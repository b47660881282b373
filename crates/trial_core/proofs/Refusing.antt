-- The answers of the steps, as those of a round and of a trial.
use Rattle.trial_core.proofs.Imports.{◌≡◌, inl, inr, refl, sym, ◌∙◌, subst, None, Some, Err, Result, ap, ℕ, ◌≢◌, History, Image, Answer, HasBtrfsRows, IsRowsRefusal, RefusesBtrfsRows, has_log, unreadable, RefusesConvert, FrontsAreJudged, RefusalsBreakRules, IsAccepted, RefusedCanNotGoBack, CanGoBack, IsTrialReadAnswer, IsStop, LeavesRound, RefusesRound, StopsUnless, by_step, FreeAreBytes, plain}
use Rattle.reiser_bitmap.specs.outside.Fault.{HasCauseOf}
use Rattle.convert_core.specs.command_answers.Answers.{of_btrfs, of_volume}
use Rattle.reiser_bitmap.specs.refusals.declared.answer.BtrAnswer.{BtrAnswer}
use Rattle.reiser_bitmap.specs.refusals.declared.answer.VolAnswer.{VolAnswer}
use Rattle.reiser_bitmap.specs.refusals.declared.refusal.BtrRefusal.{BtrRefusal}
use Rattle.reiser_bitmap.specs.vol_block.declared.format.Format.TheVariants.{Btrfs, Reiser}
use Rattle.reiser_volume.specs.reiser_volume_contents.Answers.{IsFaultOrMemory}
use Rattle.reiser_volume.specs.Answers.{RefusesVolume}
use Rattle.reiser_volume.specs.Front.{RefusesFront}
use Rattle.rollback_core.specs.RecoveryLaws.{InOrderHasFormat}
use Rattle.rollback_core.specs.RollbackAnswers.{IsRollbackAnswer, RefusesRollback}
use Rattle.convert_core.specs.command_answers.declared.answer.Answer.TheVariants as answer
use Rattle.reiser_bitmap.specs.refusals.declared.answer.BtrAnswer.TheVariants as of_btr
use Rattle.reiser_bitmap.specs.refusals.declared.answer.VolAnswer.TheVariants as of_reiser

-- ---- of a call that failed

abbrev err : (T : Type 0) → Answer → Result T Answer
err T e = Err e

err_same : (T : Type 0) (a b : Answer) → err T a ≡ err T b → a ≡ b
err_same T a b is = cc

step_fault : (e : Answer) → by_step e ≡ answer.Fault → e ≡ answer.Fault
step_fault (answer.NoSpace needed free run_needed longest) is = absurd (cc is)
step_fault answer.Fault is = refl
step_fault answer.Memory is = absurd (cc is)
step_fault _ is = absurd (cc is)

-- the answer of a step that failed is a fault exactly where the step's own is
pub step_cause : (T U : Type 0) (e : Answer) (before now : ℕ) → HasCauseOf answer.Fault before now (err T e) → HasCauseOf answer.Fault before now (err U (by_step e))
step_cause T U e before now cause = record {
  later = cause.later;
  failed = λ is. cause.failed (ap (err T) (step_fault e (err_same U (by_step e) answer.Fault is)));
  kept = λ other. cause.kept (λ is. other (ap (err U) (ap by_step (err_same T e answer.Fault is))));
}

-- ---- of a conversion

pub convert_refused : RefusalsBreakRules → InOrderHasFormat → (image : Image) (e : Answer) → IsAccepted image → RefusesConvert plain image e → RefusesRound image (by_step e)
convert_refused breaks formats image (answer.Volume r) accepted refused = absurd (breaks image r refused.1 accepted)
convert_refused breaks formats image (answer.NoSpace needed free run_needed longest) accepted refused = refused.1
convert_refused breaks formats image answer.WrongFormat accepted refused =
    let both : Reiser ≡ Btrfs = sym (formats.accepted image accepted).0 ∙ refused in
    absurd (cc both)
convert_refused breaks formats image answer.Fault accepted refused = tt
convert_refused breaks formats image answer.Memory accepted refused = tt
convert_refused breaks formats image _ accepted refused = absurd refused

pub convert_leaves : (old new : History) (e : Answer) → (e ≢ answer.Fault → e ≢ answer.Memory → new ≡ old) → LeavesRound old new (by_step e)
convert_leaves old new (answer.NoSpace needed free run_needed longest) same = same (λ is. absurd (cc is)) (λ is. absurd (cc is))
convert_leaves old new _ same = tt

-- ---- of a rollback

pub rollback_refused : RefusedCanNotGoBack → (disk : Image) (e : Answer) → RefusesRollback disk e → StopsUnless (CanGoBack disk) (by_step e)
rollback_refused can_not disk (answer.NoSpace needed free run_needed longest) refused = absurd refused
rollback_refused can_not disk answer.Fault refused = inl (inl refl)
rollback_refused can_not disk answer.Memory refused = inl (inr refl)
rollback_refused can_not disk e refused = inr (refl, can_not disk e refused (λ is. absurd (cc is)) (λ is. absurd (cc is)))

pub rollback_known : (e : Answer) → IsRollbackAnswer e → IsTrialReadAnswer (by_step e)
rollback_known (answer.NoSpace needed free run_needed longest) known = absurd known
rollback_known answer.Fault known = inl (inl refl)
rollback_known answer.Memory known = inl (inr refl)
rollback_known _ known = inr refl

-- ---- of what is read

pub front_refused : FrontsAreJudged → (image : Image) (e : VolAnswer) → IsAccepted image → RefusesFront image e → IsStop (by_step (of_volume e))
front_refused judged image (of_reiser.Refused r) accepted refused = absurd (judged.broken image r refused (judged.accepted image accepted))
front_refused judged image of_reiser.Fault accepted refused = inl refl
front_refused judged image of_reiser.Memory accepted refused = inr refl

pub volume_refused : RefusalsBreakRules → (image : Image) (e : VolAnswer) → IsAccepted image → RefusesVolume image e → IsStop (by_step (of_volume e))
volume_refused breaks image (of_reiser.Refused r) accepted refused = absurd (breaks image r refused accepted)
volume_refused breaks image of_reiser.Fault accepted refused = inl refl
volume_refused breaks image of_reiser.Memory accepted refused = inr refl

pub rows_stopped : (e : VolAnswer) → IsFaultOrMemory e → IsStop (by_step (of_volume e))
rows_stopped (of_reiser.Refused r) stop = absurd stop
rows_stopped of_reiser.Fault stop = inl refl
rows_stopped of_reiser.Memory stop = inr refl

rows_refusal : (disk : Image) (r : BtrRefusal) → IsRowsRefusal disk r → ¬ HasBtrfsRows disk
rows_refusal disk r (has_log at log is) has =
    let both : None ≡ Some at = sym has.log ∙ log in
    absurd (cc both)
rows_refusal disk r (unreadable none bad) has = has.tree r bad

pub btrfs_refused : (disk : Image) (e : BtrAnswer) → RefusesBtrfsRows disk e → StopsUnless (HasBtrfsRows disk) (by_step (of_btrfs e))
btrfs_refused disk (of_btr.Refused r) refused = inr (refl, rows_refusal disk r refused)
btrfs_refused disk of_btr.Fault refused = inl (inl refl)
btrfs_refused disk of_btr.Memory refused = inl (inr refl)

-- ---- of a round

pub stop_refuses : (image : Image) (e : Answer) → IsStop e → RefusesRound image e
stop_refuses image e (inl is) = subst (RefusesRound image) (sym is) tt
stop_refuses image e (inr is) = subst (RefusesRound image) (sym is) tt

pub unless_refuses : {H : Type 0} (image : Image) (e : Answer) → StopsUnless H e → (FreeAreBytes image → H) → RefusesRound image e
unless_refuses image e (inl stop) holds = stop_refuses image e stop
unless_refuses image e (inr both) holds = subst (RefusesRound image) (sym both.0) (refl, λ free. both.1 (holds free))

pub read_leaves : (old new : History) (e : Answer) → IsTrialReadAnswer e → LeavesRound old new e
read_leaves old new e (inl (inl is)) = subst (LeavesRound old new) (sym is) tt
read_leaves old new e (inl (inr is)) = subst (LeavesRound old new) (sym is) tt
read_leaves old new e (inr is) = subst (LeavesRound old new) (sym is) tt
