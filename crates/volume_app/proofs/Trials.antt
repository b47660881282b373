-- What a trial leaves.
use Rattle.volume_app.proofs.Imports.{◌≡◌, inl, inr, ⊎_elim, ◌≤◌, ◌<◌, ◌^◌, ℕ, ap, arith, Result, Ok, Err, History, Image, IsSettled, reads, Answer, Volume, Btr, NoSpace, WrongFormat, ImageMissing, ImageMoved, ImageDamaged, ReservedUsed, NotSound, ImageShared, Fault, Memory, HasBytes, AreIds, LeavesRefused, RefusesTrial, IsTried, needed_by, Ids, status, ending_of, IsTriable, IsTriedWhole, KeepsScratch, LeavesSample, Failed, synced_now, synced_settled}
use Rattle.trial_core.specs.Laws.{TriesKeep}
use Rattle.trial_core.specs.Round.{plain}
use Rattle.volume_app.proofs.Convertible.{converted_was}
use Rattle.reiser_volume.specs.outside.declared.fault.Fault as faults

-- a trial was done on a disk that is one for it
pub triable_was : (number : ℕ) (ids : Ids) (now : ℕ) (disk other : Image) → IsTried number ids now disk other → IsTriable number disk
triable_was number ids now disk other t = record {
  scratch = t.scratch;
  room = t.room;
  convertible = converted_was plain ids now _ t.round.between t.round.converted;
}

pub tried_whole : TriesKeep → (number : ℕ) (ids : Ids) (now : ℕ) (disk other : Image) → number ≤ 4000 → now < 2 ^ 63 → AreIds ids → IsTried number ids now disk other
    → IsTriedWhole number ids now disk other
tried_whole keeps number ids now disk other few low are t = record {
  tried = t;
  sample = λ bytes. keeps number ids now disk other t few low are bytes;
}

-- the statuses of a trial that was done are none with which nothing is written
pub tried_keeps : (number : ℕ) (disk : Image) (written : Result (Unit {0}) faults.Fault) → KeepsScratch number disk (status (ending_of written)) → ⊥
tried_keeps number disk (Ok done) is = ⊎_elim (λ one. absurd (omega (arith, one.0))) (λ or. ⊎_elim (λ (e : 0 ≡ 2). absurd (omega (arith, e))) (λ six. absurd (omega (arith, six.0))) or) is
tried_keeps number disk (Err fault) is = ⊎_elim (λ one. absurd (omega (arith, one.0))) (λ or. ⊎_elim (λ (e : 5 ≡ 2). absurd (omega (arith, e))) (λ six. absurd (omega (arith, six.0))) or) is

-- ---- a trial that is refused

-- with a status, of a disk of bytes, or of a sample that has too many blocks
keeps_one : (number : ℕ) (disk : Image) → KeepsScratch number disk 1 → HasBytes disk
keeps_one number disk is = ⊎_elim (λ one. one.1) (λ or. ⊎_elim (λ (e : 1 ≡ 2). absurd (omega (arith, e))) (λ six. absurd (omega (arith, six.0))) or) is

keeps_six : (number : ℕ) (disk : Image) → KeepsScratch number disk 6 → 65536 < needed_by number
keeps_six number disk is = ⊎_elim (λ one. absurd (omega (arith, one.0))) (λ or. ⊎_elim (λ (e : 6 ≡ 2). absurd (omega (arith, e))) (λ six. six.1) or) is

keeps_no_three : (number : ℕ) (disk : Image) → KeepsScratch number disk 3 → ⊥
keeps_no_three number disk is = ⊎_elim (λ one. absurd (omega (arith, one.0))) (λ or. ⊎_elim (λ (e : 3 ≡ 2). absurd (omega (arith, e))) (λ six. absurd (omega (arith, six.0))) or) is

keeps_no_four : (number : ℕ) (disk : Image) → KeepsScratch number disk 4 → ⊥
keeps_no_four number disk is = ⊎_elim (λ one. absurd (omega (arith, one.0))) (λ or. ⊎_elim (λ (e : 4 ≡ 2). absurd (omega (arith, e))) (λ six. absurd (omega (arith, six.0))) or) is

pub refused_keeps : (number : ℕ) (old new : History) (answer : Answer) → LeavesRefused number old new answer → KeepsScratch number (reads old) (status (Failed answer)) → new ≡ old
refused_keeps number old new (Volume refusal) leaves is = leaves.1 (keeps_one number (reads old) is)
refused_keeps number old new (Btr refusal) leaves is = leaves
refused_keeps number old new (NoSpace needed free run_needed longest_run) leaves is = leaves.0 (keeps_six number (reads old) is)
refused_keeps number old new WrongFormat leaves is = leaves
refused_keeps number old new ImageMissing leaves is = leaves
refused_keeps number old new (ImageMoved block) leaves is = leaves
refused_keeps number old new (ImageDamaged refusal) leaves is = leaves
refused_keeps number old new (ReservedUsed block) leaves is = leaves
refused_keeps number old new (NotSound part address) leaves is = leaves
refused_keeps number old new (ImageShared tree) leaves is = leaves
refused_keeps number old new Fault leaves is = absurd (keeps_no_three number (reads old) is)
refused_keeps number old new Memory leaves is = absurd (keeps_no_four number (reads old) is)

-- too little space leaves the disk as it was, or the sample, and nothing waits
pub refused_lacks : {W : Type 0} (number : ℕ) (old new : History) (answer : Answer) → RefusesTrial number (reads old) answer → LeavesRefused number (synced_now old) new answer → status (Failed answer) ≡ 6
    → LeavesSample number (reads old) (reads new) × (W → IsSettled new)
refused_lacks number old new (Volume refusal) refuses leaves is = absurd (omega (arith, is))
refused_lacks number old new (Btr refusal) refuses leaves is = absurd (omega (arith, is))
refused_lacks number old new (NoSpace needed free run_needed longest_run) refuses leaves is =
    ⊎_elim (λ full. (inl (full.0, ap reads (leaves.0 full.0)), λ writes. synced_settled old new (leaves.0 full.0)))
    (λ lacks. (inr (lacks.0, (leaves.1 lacks.0).0), λ writes. (leaves.1 lacks.0).1)) refuses.1
refused_lacks number old new WrongFormat refuses leaves is = absurd (omega (arith, is))
refused_lacks number old new ImageMissing refuses leaves is = absurd (omega (arith, is))
refused_lacks number old new (ImageMoved block) refuses leaves is = absurd (omega (arith, is))
refused_lacks number old new (ImageDamaged refusal) refuses leaves is = absurd (omega (arith, is))
refused_lacks number old new (ReservedUsed block) refuses leaves is = absurd (omega (arith, is))
refused_lacks number old new (NotSound part address) refuses leaves is = absurd (omega (arith, is))
refused_lacks number old new (ImageShared tree) refuses leaves is = absurd (omega (arith, is))
refused_lacks number old new Fault refuses leaves is = absurd (omega (arith, is))
refused_lacks number old new Memory refuses leaves is = absurd (omega (arith, is))
