-- An error that is handed on: what holds of it, and that an answer tells of a fault as the call on a volume did that gave cause to it.
use Rattle.std.proofs.Common.{◌≡◌, ◌∙◌, ℕ, ◌≤◌, Result, Ok, Err, refl, sym, ap, subst}
use Rattle.std.specs.Result.{IsErrAnd, MatchResult}
use Rattle.refusals.specs.outside.Fault.{HasCauseOf, Rose}
use Rattle.refusals.specs.declared.answer.VolAnswer.{VolAnswer}
use Rattle.refusals.specs.declared.answer.BtrAnswer.{BtrAnswer}
use Rattle.command_answers.specs.Answers.{of_btrfs, of_volume}
use Rattle.command_answers.specs.declared.answer.Answer.{Answer}
use Rattle.refusals.specs.declared.answer.VolAnswer.TheVariants as volume
use Rattle.refusals.specs.declared.answer.BtrAnswer.TheVariants as btrfs
use Rattle.command_answers.specs.declared.answer.Answer.TheVariants as answer

-- what holds of an error holds where it was handed on
pub handed_on : {T E : Type 0} (r : Result T E) (e : E) (P : T → Type 0) (Q : E → Type 0) → IsErrAnd r (λ x. x ≡ e) → Q e → MatchResult r P Q
handed_on (Ok x) e P Q told holds = absurd told
handed_on (Err x) e P Q told holds = subst Q (sym told) holds

volume_back : {T : Type 0} (r : Result T Answer) (a : VolAnswer) → IsErrAnd r (λ e. e ≡ of_volume a) → r ≡ Err answer.Fault → a ≡ volume.Fault
volume_back r volume.Fault told is = refl
volume_back (Ok x) (volume.Refused why) told is = absurd (cc is)
volume_back (Err e) (volume.Refused why) told is = absurd (cc (told, is))
volume_back (Ok x) volume.Memory told is = absurd (cc is)
volume_back (Err e) volume.Memory told is = absurd (cc (told, is))

volume_on : {T : Type 0} (r : Result T Answer) (a : VolAnswer) → IsErrAnd r (λ e. e ≡ of_volume a) → a ≡ volume.Fault → r ≡ Err answer.Fault
volume_on (Ok x) a told is = absurd told
volume_on (Err e) a told is = ap (λ (x : Answer). Err x) (told ∙ ap of_volume is)

-- a ReiserFS volume answered, after so many faults as at the start
pub volume_cause : {T U : Type 0} (r : Result T Answer) (a : VolAnswer) (start before now : ℕ) → before ≡ start → IsErrAnd r (λ e. e ≡ of_volume a)
    → HasCauseOf {T = U} volume.Fault before now (Err a) → HasCauseOf answer.Fault start now r
volume_cause {T} {U} r a start before now same told cause = record {
  later = subst (λ (n : ℕ). n ≤ now) same cause.later;
  failed = λ is. subst (λ (n : ℕ). Rose n now) same (cause.failed (ap (λ (x : VolAnswer). Err x) (volume_back r a told is)));
  kept = λ isnt. cause.kept (λ is. isnt (volume_on r a told (cc is))) ∙ same;
}

btrfs_back : {T : Type 0} (r : Result T Answer) (a : BtrAnswer) → IsErrAnd r (λ e. e ≡ of_btrfs a) → r ≡ Err answer.Fault → a ≡ btrfs.Fault
btrfs_back r btrfs.Fault told is = refl
btrfs_back (Ok x) (btrfs.Refused why) told is = absurd (cc is)
btrfs_back (Err e) (btrfs.Refused why) told is = absurd (cc (told, is))
btrfs_back (Ok x) btrfs.Memory told is = absurd (cc is)
btrfs_back (Err e) btrfs.Memory told is = absurd (cc (told, is))

btrfs_on : {T : Type 0} (r : Result T Answer) (a : BtrAnswer) → IsErrAnd r (λ e. e ≡ of_btrfs a) → a ≡ btrfs.Fault → r ≡ Err answer.Fault
btrfs_on (Ok x) a told is = absurd told
btrfs_on (Err e) a told is = ap (λ (x : Answer). Err x) (told ∙ ap of_btrfs is)

-- and a Btrfs volume
pub btrfs_cause : {T U : Type 0} (r : Result T Answer) (a : BtrAnswer) (start before now : ℕ) → before ≡ start → IsErrAnd r (λ e. e ≡ of_btrfs a)
    → HasCauseOf {T = U} btrfs.Fault before now (Err a) → HasCauseOf answer.Fault start now r
btrfs_cause {T} {U} r a start before now same told cause = record {
  later = subst (λ (n : ℕ). n ≤ now) same cause.later;
  failed = λ is. subst (λ (n : ℕ). Rose n now) same (cause.failed (ap (λ (x : BtrAnswer). Err x) (btrfs_back r a told is)));
  kept = λ isnt. cause.kept (λ is. isnt (btrfs_on r a told (cc is))) ∙ same;
}
