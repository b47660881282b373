-- What a disk in memory is seen as, and what its calls do.
use Rattle.std.specs.Prelude.{◌≡◌, ◌⊎◌, ℕ, List, [], true, false, Option, None}
use Rattle.outside.specs.declared.disk.Access.{Access}
use Rattle.outside.specs.History.{Image, History, wrote, synced, after}
use Rattle.outside_mem.specs.Failures.{Failures, no_failures, fails_next, counted, passed_write, one_more}

-- What was done to it, what it is open for, which calls fail, and four counts: of calls that failed, of those among
-- them that found no memory, of writes that landed, and of reads that succeeded.
pub record State : Type 0 where
  pub history : History
  pub opened : Option Access
  pub failures : Failures
  pub faults : ℕ
  pub refused : ℕ
  pub writes : ℕ
  pub reads_made : ℕ

-- a settled disk that is not open and fails nowhere
abbrev pub fresh : Image → State
fresh image = record {
  history = record { start = image; calls = [] };
  opened = None;
  failures = no_failures;
  faults = 0;
  refused = 0;
  writes = 0;
  reads_made = 0;
}

-- a call was made that changed nothing
abbrev pub after_call : State → State
after_call d = record d { failures = counted d.failures }

-- a read was made that succeeded
abbrev pub after_read : State → State
after_read d = record d { failures = counted d.failures; reads_made = one_more d.reads_made }

-- a call was made that failed as it was listed or stopped
abbrev pub after_failure : State → State
after_failure d = record d { failures = counted d.failures; faults = one_more d.faults }

-- a call was made that found no memory
abbrev pub after_refusal : State → State
after_refusal d = record d { failures = counted d.failures; faults = one_more d.faults; refused = one_more d.refused }

-- a write was made that landed
abbrev pub after_write : State → ℕ → List ℕ → State
after_write d n bytes = record d {
  history = after (wrote n bytes true) d.history;
  failures = passed_write (counted d.failures);
  writes = one_more d.writes;
}

-- a sync was made that succeeded
abbrev pub after_sync : State → State
after_sync d = record d { history = after synced d.history; failures = counted d.failures }

-- a call that takes memory failed: exactly where it was listed or stopped, or where it found no memory
abbrev pub Fails : State → State → Type 0
Fails old new =
    ((fails_next old.failures ≡ true) × (new ≡ after_failure old)) ⊎ ((fails_next old.failures ≡ false) × (new ≡ after_refusal old))

-- the blocks and the access are as they were, and what a crash may have left
pub record Kept (old new : State) : Type 0 where
  pub history : new.history ≡ old.history
  pub opened : new.opened ≡ old.opened
