-- What an ending that is right for a disk comes to.
use Rattle.volume_app.proofs.Imports.{◌≡◌, ◌⊎◌, inl, inr, ℕ, ◌-◌, ◌^◌, ◌<◌, List, refl, ap, subst, ⊎_elim, arith, Result, Ok, Err, ◌≢◌, Option, Format, HasCause, Rose, Takes, Image, Answer, Volume, Btr, NoSpace, WrongFormat, ImageMissing, ImageMoved, ImageDamaged, ReservedUsed, NotSound, ImageShared, Fault, Memory, Ending, Done, Usage, Failed, OutputFault, Ids, IsConvertible, IsSurvey, Survey, LacksSpace, IsRecoverable, HasBytes, RefusesTrial, sample_on, need, Options, Asked, inspect, list, convert, recover, rollback, trial, help, version, status, IsAccepted, format_in, IsInspectable, InspectRefuses, IsListable, ListRefuses, rows_not_refused, EndsRight, HasFaults, IsDoneWith, Prints, Reports, ending_of, meaning, IsTriable, put_back, CanGoBack}
use Rattle.std.specs.Prelude.{Some, None}
use Rattle.convert_core.specs.Answers.{RefusesConvert}
use Rattle.rollback_core.specs.RecoveryAnswers.{RefusesRecover}
use Rattle.rollback_core.proofs.RecoveryKeeping.{in_order_recovers}
use Rattle.rollback_core.specs.RollbackAnswers.{RefusesRollback}
use Rattle.rollback_core.proofs.Refusing.{refused_can_not}
use Rattle.reiser_volume.proofs.Refusals.{not_refused}
use Rattle.volume_app.proofs.Convertible.{accepted_is_reiser}
use Rattle.volume_app.proofs.Space.{missing}
use Rattle.reiser_volume.specs.vol_block.declared.format.Format.TheVariants as formats
use Rattle.reiser_volume.specs.outside.declared.fault.Fault as faults
use Rattle.trial_core.specs.Round as trial_round

-- a text that was written is that of the ending
pub prints_text : (is_text : List ℕ → Type 0) (text old new : List ℕ) (written : Result (Unit {0}) faults.Fault) → is_text text → Takes old text written new → Prints is_text (ending_of written) old new
prints_text is_text text old new (Ok done) right takes = (text, right, takes)
prints_text is_text text old new (Err fault) right takes = (text, right, takes)

-- a line that was written is reported
pub reported_by : {T E : Type 0} (line old new : List ℕ) (before now : ℕ) (written : Result T E) → Takes old line written new → HasCause before now written → Reports line before now old new
reported_by line old new before now (Ok done) takes cause = inl takes
reported_by line old new before now (Err fault) takes cause = inr (cause.failed, takes)

not_risen : (before now : ℕ) → now ≡ before → before < 2 ^ 64 - 1 → Rose before now → ⊥
not_risen before now same low rose = omega (arith, same, low, rose)

-- a disk that is inspected and has not the format of Btrfs is accepted
accepted_if : (f : Format) (disk : Image) → f ≢ formats.Btrfs → IsInspectable f disk → IsAccepted disk
accepted_if formats.Reiser disk other is = is
accepted_if formats.Btrfs disk other is = absurd (other refl)
accepted_if formats.Neither disk other is = absurd is

inspect_done : (disk : Image) (answer : Answer) (disk_old disk_new : ℕ) → IsInspectable (format_in disk) disk → InspectRefuses disk answer
    → (answer ≡ Fault → Rose disk_old disk_new) → disk_new ≡ disk_old → disk_old < 2 ^ 64 - 1 → (status (Failed answer) ≡ 0) ⊎ (status (Failed answer) ≡ 4)
inspect_done disk (Volume refusal) disk_old disk_new done refuses device same low = absurd (not_refused disk refusal refuses.1 (accepted_if (format_in disk) disk refuses.0 done))
inspect_done disk (Btr refusal) disk_old disk_new done refuses device same low =
    absurd (subst (λ (f : Format). IsInspectable f disk) refuses.0 done refusal refuses.1)
inspect_done disk Fault disk_old disk_new done refuses device same low = absurd (not_risen disk_old disk_new same low (device refl))
inspect_done disk Memory disk_old disk_new done refuses device same low = inr refl
inspect_done disk WrongFormat disk_old disk_new done refuses device same low = absurd refuses
inspect_done disk (NoSpace needed free run_needed longest_run) disk_old disk_new done refuses device same low = absurd refuses
inspect_done disk ImageMissing disk_old disk_new done refuses device same low = absurd refuses
inspect_done disk (ImageMoved block) disk_old disk_new done refuses device same low = absurd refuses
inspect_done disk (ImageDamaged refusal) disk_old disk_new done refuses device same low = absurd refuses
inspect_done disk (ReservedUsed block) disk_old disk_new done refuses device same low = absurd refuses
inspect_done disk (NotSound part address) disk_old disk_new done refuses device same low = absurd refuses
inspect_done disk (ImageShared tree) disk_old disk_new done refuses device same low = absurd refuses

-- a disk that is listed and has not the format of Btrfs is accepted
accepted_where : (f : Format) (disk : Image) → f ≢ formats.Btrfs → IsListable f disk → IsAccepted disk
accepted_where formats.Reiser disk other is = is
accepted_where formats.Btrfs disk other is = absurd (other refl)
accepted_where formats.Neither disk other is = absurd is

list_done : (disk : Image) (answer : Answer) (disk_old disk_new : ℕ) → IsListable (format_in disk) disk → ListRefuses disk answer
    → (answer ≡ Fault → Rose disk_old disk_new) → disk_new ≡ disk_old → disk_old < 2 ^ 64 - 1 → (status (Failed answer) ≡ 0) ⊎ (status (Failed answer) ≡ 4)
list_done disk (Volume refusal) disk_old disk_new done refuses device same low = absurd (not_refused disk refusal refuses.1 (accepted_where (format_in disk) disk refuses.0 done))
list_done disk (Btr refusal) disk_old disk_new done refuses device same low =
    absurd (rows_not_refused disk refusal (subst (λ (f : Format). IsListable f disk) refuses.0 done) refuses.1)
list_done disk Fault disk_old disk_new done refuses device same low = absurd (not_risen disk_old disk_new same low (device refl))
list_done disk Memory disk_old disk_new done refuses device same low = inr refl
list_done disk WrongFormat disk_old disk_new done refuses device same low = absurd refuses
list_done disk (NoSpace needed free run_needed longest_run) disk_old disk_new done refuses device same low = absurd refuses
list_done disk ImageMissing disk_old disk_new done refuses device same low = absurd refuses
list_done disk (ImageMoved block) disk_old disk_new done refuses device same low = absurd refuses
list_done disk (ImageDamaged refusal) disk_old disk_new done refuses device same low = absurd refuses
list_done disk (ReservedUsed block) disk_old disk_new done refuses device same low = absurd refuses
list_done disk (NotSound part address) disk_old disk_new done refuses device same low = absurd refuses
list_done disk (ImageShared tree) disk_old disk_new done refuses device same low = absurd refuses

-- a volume that can be converted lacks no space
lacks_none : (o : Options) (disk : Image) (needed free run_needed longest : ℕ) → IsConvertible o disk → LacksSpace disk o needed free run_needed longest → ⊥
lacks_none o disk needed free run_needed longest c l =
    let told : Survey = record { counts = c.found.counts; need = need c.found.counts o } in
    let first : IsSurvey o disk told = record {
      keys = c.keys;
      are_keys = c.sorted.are_keys;
      ascend = c.sorted.ascend;
      visible = c.visible;
      links = c.links;
      are_links = c.are_links;
      counts_are = c.found_.counts_are;
      need_is = refl;
    } in
    missing o disk needed free run_needed longest l told first c.enough

convert_done : (o : Options) (disk : Image) (answer : Answer) (disk_old disk_new : ℕ) → IsConvertible o disk → RefusesConvert o disk answer
    → (answer ≡ Fault → Rose disk_old disk_new) → disk_new ≡ disk_old → disk_old < 2 ^ 64 - 1 → (status (Failed answer) ≡ 0) ⊎ (status (Failed answer) ≡ 4)
convert_done o disk (Volume refusal) disk_old disk_new done refuses device same low = absurd (not_refused disk refusal refuses.1 done.sorted.accepted)
convert_done o disk (Btr refusal) disk_old disk_new done refuses device same low = absurd refuses
convert_done o disk Fault disk_old disk_new done refuses device same low = absurd (not_risen disk_old disk_new same low (device refl))
convert_done o disk Memory disk_old disk_new done refuses device same low = inr refl
convert_done o disk WrongFormat disk_old disk_new done refuses device same low = absurd (accepted_is_reiser disk done.sorted.accepted refuses)
convert_done o disk (NoSpace needed free run_needed longest_run) disk_old disk_new done refuses device same low =
    absurd (lacks_none o disk needed free run_needed longest_run done refuses.1)
convert_done o disk ImageMissing disk_old disk_new done refuses device same low = absurd refuses
convert_done o disk (ImageMoved block) disk_old disk_new done refuses device same low = absurd refuses
convert_done o disk (ImageDamaged refusal) disk_old disk_new done refuses device same low = absurd refuses
convert_done o disk (ReservedUsed block) disk_old disk_new done refuses device same low = absurd refuses
convert_done o disk (NotSound part address) disk_old disk_new done refuses device same low = absurd refuses
convert_done o disk (ImageShared tree) disk_old disk_new done refuses device same low = absurd refuses

by_recovery : (disk : Image) (answer : Answer) (disk_old disk_new : ℕ) → (answer ≡ Fault) ⊎ ((answer ≡ Memory) × (format_in disk ≡ formats.Reiser))
    → (answer ≡ Fault → Rose disk_old disk_new) → disk_new ≡ disk_old → disk_old < 2 ^ 64 - 1 → (status (Failed answer) ≡ 0) ⊎ (status (Failed answer) ≡ 4)
by_recovery disk answer disk_old disk_new (inl fault) device same low = absurd (not_risen disk_old disk_new same low (device fault))
by_recovery disk answer disk_old disk_new (inr short) device same low = inr (ap (λ (a : Answer). status (Failed a)) short.0)

recover_done : (disk : Image) (answer : Answer) (disk_old disk_new : ℕ) → IsRecoverable disk → RefusesRecover disk answer
    → (answer ≡ Fault → Rose disk_old disk_new) → disk_new ≡ disk_old → disk_old < 2 ^ 64 - 1 → (status (Failed answer) ≡ 0) ⊎ (status (Failed answer) ≡ 4)
recover_done disk answer disk_old disk_new done refuses device same low =
    by_recovery disk answer disk_old disk_new (in_order_recovers disk answer done refuses) device same low

-- what is answered of a volume that can be rolled back is no refusal
rollback_done : (disk : Image) (answer : Answer) (disk_old disk_new : ℕ) → CanGoBack disk → RefusesRollback disk answer
    → (answer ≡ Fault → Rose disk_old disk_new) → disk_new ≡ disk_old → disk_old < 2 ^ 64 - 1 → (status (Failed answer) ≡ 0) ⊎ (status (Failed answer) ≡ 4)
rollback_done disk Fault disk_old disk_new done refuses device same low = absurd (not_risen disk_old disk_new same low (device refl))
rollback_done disk Memory disk_old disk_new done refuses device same low = inr refl
rollback_done disk (Volume refusal) disk_old disk_new done refuses device same low = absurd (refused_can_not disk (Volume refusal) refuses (λ is. cc) (λ is. cc) done)
rollback_done disk (Btr refusal) disk_old disk_new done refuses device same low = absurd (refused_can_not disk (Btr refusal) refuses (λ is. cc) (λ is. cc) done)
rollback_done disk (NoSpace needed free run_needed longest_run) disk_old disk_new done refuses device same low = absurd refuses
rollback_done disk WrongFormat disk_old disk_new done refuses device same low = absurd (refused_can_not disk WrongFormat refuses (λ is. cc) (λ is. cc) done)
rollback_done disk ImageMissing disk_old disk_new done refuses device same low = absurd (refused_can_not disk ImageMissing refuses (λ is. cc) (λ is. cc) done)
rollback_done disk (ImageMoved block) disk_old disk_new done refuses device same low = absurd (refused_can_not disk (ImageMoved block) refuses (λ is. cc) (λ is. cc) done)
rollback_done disk (ImageDamaged refusal) disk_old disk_new done refuses device same low = absurd (refused_can_not disk (ImageDamaged refusal) refuses (λ is. cc) (λ is. cc) done)
rollback_done disk (ReservedUsed block) disk_old disk_new done refuses device same low = absurd (refused_can_not disk (ReservedUsed block) refuses (λ is. cc) (λ is. cc) done)
rollback_done disk (NotSound part address) disk_old disk_new done refuses device same low = absurd refuses
rollback_done disk (ImageShared tree) disk_old disk_new done refuses device same low = absurd refuses

-- what is answered of a disk on which a trial has to be done is no refusal
trial_done : (number : ℕ) (disk : Image) (answer : Answer) (disk_old disk_new : ℕ) → IsTriable number disk × HasBytes disk → RefusesTrial number disk answer
    → (answer ≡ Fault → Rose disk_old disk_new) → disk_new ≡ disk_old → disk_old < 2 ^ 64 - 1 → (status (Failed answer) ≡ 0) ⊎ (status (Failed answer) ≡ 4)
trial_done number disk (Volume refusal) disk_old disk_new due refuses device same low = absurd (⊎_elim (λ short. absurd (omega (arith, short.1, due.0.scratch.long))) (λ damaged. damaged.2 due.1) refuses.1)
trial_done number disk (Btr refusal) disk_old disk_new due refuses device same low = absurd refuses
trial_done number disk Fault disk_old disk_new due refuses device same low = absurd (not_risen disk_old disk_new same low (device refl))
trial_done number disk Memory disk_old disk_new due refuses device same low = inr refl
trial_done number disk WrongFormat disk_old disk_new due refuses device same low = absurd (refuses due.0.scratch.format)
trial_done number disk (NoSpace needed free run_needed longest_run) disk_old disk_new due refuses device same low =
    absurd (⊎_elim (λ full. absurd (omega (arith, full.0, due.0.room))) (λ lacks. lacks_none trial_round.plain (sample_on number disk) needed free run_needed longest_run due.0.convertible lacks.1) refuses.1)
trial_done number disk ImageMissing disk_old disk_new due refuses device same low = absurd refuses
trial_done number disk (ImageMoved block) disk_old disk_new due refuses device same low = absurd refuses
trial_done number disk (ImageDamaged refusal) disk_old disk_new due refuses device same low = absurd refuses
trial_done number disk (ReservedUsed block) disk_old disk_new due refuses device same low = absurd refuses
trial_done number disk (NotSound part address) disk_old disk_new due refuses device same low = absurd refuses
trial_done number disk (ImageShared tree) disk_old disk_new due refuses device same low = absurd refuses

failed_done : (ids : Ids) (now : ℕ) (asked : Option Asked) (disk : Image) (answer : Answer) (disk_old disk_new : ℕ) → (meaning ids now asked).is_due disk → (meaning ids now asked).answers disk answer
    → (answer ≡ Fault → Rose disk_old disk_new) → disk_new ≡ disk_old → disk_old < 2 ^ 64 - 1 → (status (Failed answer) ≡ 0) ⊎ (status (Failed answer) ≡ 4)
failed_done ids now None disk answer disk_old disk_new done right device same low = absurd done
failed_done ids now (Some (inspect o path)) disk answer disk_old disk_new done right device same low = inspect_done disk answer disk_old disk_new done right device same low
failed_done ids now (Some (list path)) disk answer disk_old disk_new done right device same low = list_done disk answer disk_old disk_new done right device same low
failed_done ids now (Some (convert o path)) disk answer disk_old disk_new done right device same low = convert_done o (put_back disk) answer disk_old disk_new done right device same low
failed_done ids now (Some (recover path)) disk answer disk_old disk_new done right device same low = recover_done (put_back disk) answer disk_old disk_new done right device same low
failed_done ids now (Some (rollback path)) disk answer disk_old disk_new done right device same low = rollback_done disk answer disk_old disk_new done right device same low
failed_done ids now (Some (trial number path)) disk answer disk_old disk_new done right device same low = trial_done number disk answer disk_old disk_new done right device same low
failed_done ids now (Some help) disk answer disk_old disk_new done right device same low = absurd right
failed_done ids now (Some version) disk answer disk_old disk_new done right device same low = absurd right

usage_not_done : (ids : Ids) (now : ℕ) (asked : Option Asked) (disk : Image) → (meaning ids now asked).is_due disk → (meaning ids now asked).is_usage → ⊥
usage_not_done ids now None disk done usage = done
usage_not_done ids now (Some (inspect o path)) disk done usage = usage
usage_not_done ids now (Some (list path)) disk done usage = usage
usage_not_done ids now (Some (convert o path)) disk done usage = usage
usage_not_done ids now (Some (recover path)) disk done usage = usage
usage_not_done ids now (Some (rollback path)) disk done usage = usage
usage_not_done ids now (Some (trial number path)) disk done usage = usage
usage_not_done ids now (Some help) disk done usage = usage
usage_not_done ids now (Some version) disk done usage = usage

-- a command that is to be done is done, where no call failed and there was memory
pub done_or_memory : (ids : Ids) (now : ℕ) (asked : Option Asked) (disk : Image) (ending : Ending) (disk_old disk_new out_old out_new : ℕ) → (meaning ids now asked).is_due disk
    → EndsRight (meaning ids now asked) disk ending
    → HasFaults ending disk_old disk_new out_old out_new → disk_new ≡ disk_old → disk_old < 2 ^ 64 - 1 → out_new ≡ out_old → out_old < 2 ^ 64 - 1
    → (status ending ≡ 0) ⊎ (status ending ≡ 4)
done_or_memory ids now asked disk Done disk_old disk_new out_old out_new done right faults same low out_same out_low = inl refl
done_or_memory ids now asked disk Usage disk_old disk_new out_old out_new done right faults same low out_same out_low =
    absurd (usage_not_done ids now asked disk done right)
done_or_memory ids now asked disk (Failed answer) disk_old disk_new out_old out_new done right faults same low out_same out_low =
    failed_done ids now asked disk answer disk_old disk_new done right (λ is. faults.device (ap (λ (a : Answer). Failed a) is)) same low
done_or_memory ids now asked disk OutputFault disk_old disk_new out_old out_new done right faults same low out_same out_low =
    absurd (not_risen out_old out_new out_same out_low (faults.output refl))

-- a number that is none of these
other_than : (n : ℕ) → (n ≡ 0) ⊎ (n ≡ 5) → (n ≢ 0) × (n ≢ 5) → ⊥
other_than n is not = ⊎_elim (λ (e : n ≡ 0). not.0 e) (λ (e : n ≡ 5). not.1 e) is

no_other : (n : ℕ) → (n ≡ 1) ⊎ ((n ≡ 2) ⊎ (n ≡ 6)) → 2 < n × n < 6 → ⊥
no_other n is among = ⊎_elim (λ (e : n ≡ 1). absurd (omega (arith, among.0, e))) (λ (or : (n ≡ 2) ⊎ (n ≡ 6)). ⊎_elim (λ (e : n ≡ 2). absurd (omega (arith, among.0, e))) (λ (e : n ≡ 6). absurd (omega (arith, among.1, e))) or) is

failed_is : (answer : Answer) → (status (Failed answer) ≡ 0) ⊎ (status (Failed answer) ≡ 5) → ⊥
failed_is (Volume refusal) is = other_than 1 is (λ e. absurd (omega (arith, e)), λ e. absurd (omega (arith, e)))
failed_is (Btr refusal) is = other_than 1 is (λ e. absurd (omega (arith, e)), λ e. absurd (omega (arith, e)))
failed_is (NoSpace needed free run_needed longest_run) is = other_than 6 is (λ e. absurd (omega (arith, e)), λ e. absurd (omega (arith, e)))
failed_is WrongFormat is = other_than 1 is (λ e. absurd (omega (arith, e)), λ e. absurd (omega (arith, e)))
failed_is ImageMissing is = other_than 1 is (λ e. absurd (omega (arith, e)), λ e. absurd (omega (arith, e)))
failed_is (ImageMoved block) is = other_than 1 is (λ e. absurd (omega (arith, e)), λ e. absurd (omega (arith, e)))
failed_is (ImageDamaged refusal) is = other_than 1 is (λ e. absurd (omega (arith, e)), λ e. absurd (omega (arith, e)))
failed_is (ReservedUsed block) is = other_than 1 is (λ e. absurd (omega (arith, e)), λ e. absurd (omega (arith, e)))
failed_is (NotSound part address) is = other_than 1 is (λ e. absurd (omega (arith, e)), λ e. absurd (omega (arith, e)))
failed_is (ImageShared tree) is = other_than 1 is (λ e. absurd (omega (arith, e)), λ e. absurd (omega (arith, e)))
failed_is Fault is = other_than 3 is (λ e. absurd (omega (arith, e)), λ e. absurd (omega (arith, e)))
failed_is Memory is = other_than 4 is (λ e. absurd (omega (arith, e)), λ e. absurd (omega (arith, e)))

-- statuses 0 and 5 are those of a command that was done
pub done_by : (ending : Ending) → (status ending ≡ 0) ⊎ (status ending ≡ 5) → IsDoneWith ending
done_by Done is = tt
done_by Usage is = ⊎_elim (λ (e : 2 ≡ 0). absurd (omega (arith, e))) (λ (e : 2 ≡ 5). absurd (omega (arith, e))) is
done_by (Failed answer) is = absurd (failed_is answer is)
done_by OutputFault is = tt

-- a refusal of `convert` with status 1, 2 or 6 is neither a fault nor want of memory
pub refusal_by : (answer : Answer) → (status (Failed answer) ≡ 1) ⊎ ((status (Failed answer) ≡ 2) ⊎ (status (Failed answer) ≡ 6)) → (answer ≢ Fault) × (answer ≢ Memory)
refusal_by answer is = (
  λ e. no_other 3 (subst (λ (a : Answer). (status (Failed a) ≡ 1) ⊎ ((status (Failed a) ≡ 2) ⊎ (status (Failed a) ≡ 6))) e is) (omega arith, omega arith),
  λ e. no_other 4 (subst (λ (a : Answer). (status (Failed a) ≡ 1) ⊎ ((status (Failed a) ≡ 2) ⊎ (status (Failed a) ≡ 6))) e is) (omega arith, omega arith),
)

-- status 4 is that of want of memory alone
pub memory_by : (answer : Answer) → status (Failed answer) ≡ 4 → answer ≡ Memory
memory_by (Volume refusal) is = absurd (omega (arith, is))
memory_by (Btr refusal) is = absurd (omega (arith, is))
memory_by (NoSpace needed free run_needed longest_run) is = absurd (omega (arith, is))
memory_by WrongFormat is = absurd (omega (arith, is))
memory_by ImageMissing is = absurd (omega (arith, is))
memory_by (ImageMoved block) is = absurd (omega (arith, is))
memory_by (ImageDamaged refusal) is = absurd (omega (arith, is))
memory_by (ReservedUsed block) is = absurd (omega (arith, is))
memory_by (NotSound part address) is = absurd (omega (arith, is))
memory_by (ImageShared tree) is = absurd (omega (arith, is))
memory_by Fault is = absurd (omega (arith, is))
memory_by Memory is = refl

no_low : (n : ℕ) → (n ≡ 1) ⊎ ((n ≡ 2) ⊎ (n ≡ 4)) → n ≡ 3 → ⊥
no_low n is three = ⊎_elim (λ (e : n ≡ 1). absurd (omega (arith, three, e))) (λ (or : (n ≡ 2) ⊎ (n ≡ 4)). ⊎_elim (λ (e : n ≡ 2). absurd (omega (arith, three, e))) (λ (e : n ≡ 4). absurd (omega (arith, three, e))) or) is

-- an answer of `recover` with status 1, 2 or 4 is no fault
pub no_fault_by : (answer : Answer) → (status (Failed answer) ≡ 1) ⊎ ((status (Failed answer) ≡ 2) ⊎ (status (Failed answer) ≡ 4)) → answer ≢ Fault
no_fault_by answer is = λ e. no_low 3 (subst (λ (a : Answer). (status (Failed a) ≡ 1) ⊎ ((status (Failed a) ≡ 2) ⊎ (status (Failed a) ≡ 4))) e is) refl
