-- What is said of a command that was done, or failed, from what is said of its parts.
use Rattle.volume_app.proofs.Imports.{◌≡◌, ◌⊎◌, ⊎_elim, ℕ, Bool, false, List, Result, Ok, Err, refl, sym, ap, arith, true≢false, IsTrue, Option, HasCause, HasCauseOf, Takes, EachCrashSynced, synced_now, synced_settled, uncalled, History, Image, IsSettled, reads, Answer, Fault, Memory, Asked, status, EndsRight, HasFaults, IsDoneWith, IsQuiet, Knows, Performs, ending_of, Ending, Done, Usage, Failed, OutputFault, IsPutBackAlone, put_back}
use Rattle.std.specs.Prelude.{Some, None}
use Rattle.volume_app.specs.Meaning.{IsSame, Meaning, no_command, reads_disk, says}
use Rattle.reiser_volume.specs.outside.declared.fault.Fault as faults
use Rattle.volume_app.proofs.Outcomes.{prints_text}

-- endings differ
done_no_fault : (a : Answer) → Done ≡ Failed a → ⊥
done_no_fault a is = cc

done_no_output : Done ≡ OutputFault → ⊥
done_no_output is = cc

output_no_fault : (a : Answer) → OutputFault ≡ Failed a → ⊥
output_no_fault a is = cc

failed_no_output : (a : Answer) → Failed a ≡ OutputFault → ⊥
failed_no_output a is = cc

usage_no_fault : (a : Answer) → Usage ≡ Failed a → ⊥
usage_no_fault a is = cc

usage_no_output : Usage ≡ OutputFault → ⊥
usage_no_output is = cc

same_answer : (a b : Answer) → Failed a ≡ Failed b → a ≡ b
same_answer a b is = cc

-- words that ask for something are a command
pub some_is_not : (o : Option Asked) (a : Asked) → o ≡ Some a → o ≡ None → ⊥
some_is_not o a is none = cc

-- ---- the faults

-- of a command that was done
pub printed_faults : (written : Result (Unit {0}) faults.Fault) (disk_old disk_new out_old out_new : ℕ) → disk_new ≡ disk_old → HasCause out_old out_new written
    → HasFaults (ending_of written) disk_old disk_new out_old out_new
printed_faults (Ok done) disk_old disk_new out_old out_new same cause = record {
  disk_later = omega (arith, same);
  out_later = cause.later;
  device = λ is. absurd (done_no_fault Fault is);
  device_kept = λ other. same;
  output = λ is. absurd (done_no_output is);
  output_kept = λ other. cause.kept;
}
printed_faults (Err fault) disk_old disk_new out_old out_new same cause = record {
  disk_later = omega (arith, same);
  out_later = cause.later;
  device = λ is. absurd (output_no_fault Fault is);
  device_kept = λ other. same;
  output = λ is. cause.failed;
  output_kept = λ other. absurd (other refl);
}

abbrev err : (T : Type 0) → Answer → Result T Answer
err T a = Err a

abbrev ok : {T : Type 0} → T → Result T Answer
ok found = Ok found

err_answer : (T : Type 0) (a b : Answer) → a ≡ b → err T a ≡ err T b
err_answer T a b is = ap (err T) is

ok_no_err : {T : Type 0} (found : T) (a : Answer) → ok found ≡ Err a → ⊥
ok_no_err found a is = cc

err_same : (T : Type 0) (a b : Answer) → err T a ≡ err T b → Failed a ≡ Failed b
err_same T a b is = cc

-- of one that was not
pub failed_faults : (T : Type 0) (answer : Answer) (disk_old disk_new out_old : ℕ) → HasCauseOf Fault disk_old disk_new (err T answer)
    → HasFaults (Failed answer) disk_old disk_new out_old out_old
failed_faults T answer disk_old disk_new out_old cause = record {
  disk_later = cause.later;
  out_later = omega arith;
  device = λ is. cause.failed (err_answer T answer Fault (same_answer answer Fault is));
  device_kept = λ other. cause.kept (λ is. other (err_same T answer Fault is));
  output = λ is. absurd (failed_no_output answer is);
  output_kept = λ other. refl;
}

-- a call that was Ok left the count of faults
pub ok_kept : {T : Type 0} (found : T) (before now : ℕ) → HasCauseOf Fault before now (ok found) → now ≡ before
ok_kept found before now cause = cause.kept (λ is. ok_no_err found Fault is)

-- ---- the disk

-- how the disk is behind a command
pub record Leaves (m : Meaning) (tells : Bool) (old new : History) (ending : Ending) : Type 0 where
  pub unchanged : IsTrue tells → m.keeps (reads old) (status ending) → m.first old new
  pub lacking : IsTrue tells → status ending ≡ 6 → m.lacking (reads old) (reads new) × (IsTrue m.writes → IsSettled new)
  pub starved : IsTrue tells → status ending ≡ 4 → m.starved (reads old) (reads new)
  pub changed : IsTrue tells → IsDoneWith ending → m.becomes (reads old) (reads new)
  pub settled : IsTrue tells → IsTrue m.writes → IsDoneWith ending → IsSettled new
  pub crash : EachCrashSynced tells old new (m.leaves (reads old))
  pub order : IsTrue tells → m.order old new

-- a disk that was synced alone reads as before, and is settled
pub only_synced : {W : Type 0} (old new : History) → new ≡ synced_now old → IsSame (reads old) (reads new) × (W → IsSettled new)
only_synced old new is = (ap reads is, λ writes. synced_settled old new is)

-- the same where block 16 was put back
pub put_alone : {W : Type 0} (old new : History) → IsPutBackAlone (synced_now old) new → (reads new ≡ put_back (reads old)) × (W → IsSettled new)
put_alone old new alone = (alone.put, λ writes. alone.settled (λ b bytes waits. waits))

-- a command that only reads writes nothing
no_writer : {T : Type 0} → IsTrue false → T
no_writer writes = absurd (true≢false (sym writes))

-- a command that reads leaves it as it was
pub reading_leaves : (done : Image → Type 0) (text : Image → List ℕ → Type 0) (refuses : Image → Answer → Type 0) (known : Answer → Type 0) (tells : Bool) (old new : History) (ending : Ending)
    → (IsTrue tells → new ≡ old) → Leaves (reads_disk done text refuses known) tells old new ending
reading_leaves done text refuses known tells old new ending same = record {
  unchanged = λ told keeps. same told;
  lacking = λ told is. (ap reads (same told), λ writes. no_writer writes);
  starved = λ told is. ap reads (same told);
  changed = λ told is. ap reads (same told);
  settled = λ told writes is. no_writer writes;
  crash = λ told. uncalled old new (IsSame (reads old)) (same told);
  order = λ told. tt;
}

-- the statuses of a command that was done are none of a refusal
pub printed_keeps : (written : Result (Unit {0}) faults.Fault) → (status (ending_of written) ≡ 1) ⊎ ((status (ending_of written) ≡ 2) ⊎ (status (ending_of written) ≡ 6)) → ⊥
printed_keeps (Ok done) is = ⊎_elim (λ (e : 0 ≡ 1). absurd (omega (arith, e))) (λ (or : (0 ≡ 2) ⊎ (0 ≡ 6)). ⊎_elim (λ (e : 0 ≡ 2). absurd (omega (arith, e))) (λ (e : 0 ≡ 6). absurd (omega (arith, e))) or) is
printed_keeps (Err fault) is = ⊎_elim (λ (e : 5 ≡ 1). absurd (omega (arith, e))) (λ (or : (5 ≡ 2) ⊎ (5 ≡ 6)). ⊎_elim (λ (e : 5 ≡ 2). absurd (omega (arith, e))) (λ (e : 5 ≡ 6). absurd (omega (arith, e))) or) is

pub recovered_keeps : (written : Result (Unit {0}) faults.Fault) → (status (ending_of written) ≡ 1) ⊎ ((status (ending_of written) ≡ 2) ⊎ (status (ending_of written) ≡ 4)) → ⊥
recovered_keeps (Ok done) is = ⊎_elim (λ (e : 0 ≡ 1). absurd (omega (arith, e))) (λ (or : (0 ≡ 2) ⊎ (0 ≡ 4)). ⊎_elim (λ (e : 0 ≡ 2). absurd (omega (arith, e))) (λ (e : 0 ≡ 4). absurd (omega (arith, e))) or) is
recovered_keeps (Err fault) is = ⊎_elim (λ (e : 5 ≡ 1). absurd (omega (arith, e))) (λ (or : (5 ≡ 2) ⊎ (5 ≡ 4)). ⊎_elim (λ (e : 5 ≡ 2). absurd (omega (arith, e))) (λ (e : 5 ≡ 4). absurd (omega (arith, e))) or) is

pub printed_lacks : (written : Result (Unit {0}) faults.Fault) → status (ending_of written) ≡ 6 → ⊥
printed_lacks (Ok done) is = omega (arith, is)
printed_lacks (Err fault) is = omega (arith, is)

pub printed_starves : (written : Result (Unit {0}) faults.Fault) → status (ending_of written) ≡ 4 → ⊥
printed_starves (Ok done) is = omega (arith, is)
printed_starves (Err fault) is = omega (arith, is)

-- ---- the commands

right_of : (m : Meaning) (disk : Image) (written : Result (Unit {0}) faults.Fault) → m.is_done disk → EndsRight m disk (ending_of written)
right_of m disk (Ok done) is = is
right_of m disk (Err fault) is = is

known_of : (m : Meaning) (written : Result (Unit {0}) faults.Fault) → Knows m (ending_of written)
known_of m (Ok done) = tt
known_of m (Err fault) = tt

loud : (written : Result (Unit {0}) faults.Fault) → IsQuiet (ending_of written) → ⊥
loud (Ok done) is = is
loud (Err fault) is = is

no_memory : (written : Result (Unit {0}) faults.Fault) → ending_of written ≡ Failed Memory → ⊥
no_memory (Ok done) is = done_no_fault Memory is
no_memory (Err fault) is = output_no_fault Memory is

module _ (m : Meaning) (tells : Bool) (old new : History) (disk_old disk_new : ℕ) (out_tells : Bool) where
  -- it was done, and printed this text
  pub performed : (taken_old taken_new : List ℕ) (out_old out_new : ℕ) (text : List ℕ) (written : Result (Unit {0}) faults.Fault)
      → ((m.asks_disk → IsTrue tells) → m.is_done (reads old)) → ((m.asks_disk → IsTrue tells) → m.is_text (reads old) text)
      → Leaves m tells old new (ending_of written) → disk_new ≡ disk_old → (IsTrue out_tells → Takes taken_old text written taken_new) → HasCause out_old out_new written
      → Performs m tells old new disk_old disk_new out_tells taken_old taken_new out_old out_new (ending_of written)
  performed taken_old taken_new out_old out_new text written done right leaves same takes cause = record {
    right = λ told. right_of m (reads old) written (done told);
    known = known_of m written;
    printed = λ told out_told. prints_text (m.is_text (reads old)) text taken_old taken_new written (right told) (takes out_told);
    quiet = λ told is. absurd (loud written is);
    memory = λ is. absurd (no_memory written is);
    unchanged = leaves.unchanged;
    lacking = leaves.lacking;
    starved = leaves.starved;
    changed = leaves.changed;
    settled = leaves.settled;
    crash = leaves.crash;
    order = leaves.order;
    faults = printed_faults written disk_old disk_new out_old out_new same cause;
  }

  -- it failed, and printed nothing
  pub failed : (T : Type 0) (taken : List ℕ) (out : ℕ) (answer : Answer) → ((m.asks_disk → IsTrue tells) → m.answers (reads old) answer) → m.knows answer → (answer ≡ Memory → m.takes_memory)
      → Leaves m tells old new (Failed answer) → HasCauseOf Fault disk_old disk_new (err T answer)
      → Performs m tells old new disk_old disk_new out_tells taken taken out out (Failed answer)
  failed T taken out answer right known memory leaves cause = record {
    right = right;
    known = known;
    printed = λ told out_told. refl;
    quiet = λ told is. refl;
    memory = λ is. memory (same_answer answer Memory is);
    unchanged = leaves.unchanged;
    lacking = leaves.lacking;
    starved = leaves.starved;
    changed = leaves.changed;
    settled = leaves.settled;
    crash = leaves.crash;
    order = leaves.order;
    faults = failed_faults T answer disk_old disk_new out cause;
  }

-- words that are no command
pub no_words : (tells : Bool) (old : History) (disk : ℕ) (out_tells : Bool) (taken : List ℕ) (out : ℕ) → Performs no_command tells old old disk disk out_tells taken taken out out Usage
no_words tells old disk out_tells taken out = record {
  right = λ told. tt;
  known = tt;
  printed = λ told out_told. refl;
  quiet = λ told is. refl;
  memory = λ is. absurd (usage_no_fault Memory is);
  unchanged = λ told keeps. refl;
  lacking = λ told is. absurd (omega (arith, is));
  starved = λ told is. absurd (omega (arith, is));
  changed = λ told is. absurd is;
  settled = λ told writes is. absurd is;
  crash = λ told. uncalled old old (IsSame (reads old)) refl;
  order = λ told. tt;
  faults = record {
    disk_later = omega arith;
    out_later = omega arith;
    device = λ is. absurd (usage_no_fault Fault is);
    device_kept = λ other. refl;
    output = λ is. absurd (usage_no_output is);
    output_kept = λ other. refl;
  };
}

-- a text that is printed whatever the disk is
pub said : (text : List ℕ) (tells : Bool) (old : History) (disk : ℕ) (out_tells : Bool) (taken_old taken_new : List ℕ) (out_old out_new : ℕ) (written : Result (Unit {0}) faults.Fault)
    → (IsTrue out_tells → Takes taken_old text written taken_new) → HasCause out_old out_new written
    → Performs (says text) tells old old disk disk out_tells taken_old taken_new out_old out_new (ending_of written)
said text tells old disk out_tells taken_old taken_new out_old out_new written takes cause =
    performed (says text) tells old old disk disk out_tells taken_old taken_new out_old out_new text written (λ told. tt) (λ told. refl)
    (record {
      unchanged = λ told keeps. refl;
      lacking = λ told is. (refl, λ writes. no_writer writes);
      starved = λ told is. refl;
      changed = λ told is. refl;
      settled = λ told writes is. no_writer writes;
      crash = λ told. uncalled old old (IsSame (reads old)) refl;
      order = λ told. tt;
    })
    refl takes cause
