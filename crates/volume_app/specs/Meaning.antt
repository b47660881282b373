-- What a command means.
use Rattle.std.specs.Prelude.{◌≡◌, ℕ, Bool, true, false, List, []}
use Rattle.first_sync.specs.Synced.{synced_now}
use Rattle.super_turn.specs.PutBack.{IsPutBackAlone}
use Rattle.reiser_volume.specs.outside.History.{History, Image}
use Rattle.convert_core.specs.command_answers.declared.answer.Answer.{Answer}

-- All that is said of a command. A disk is seen as the blocks that it has when the command begins.
pub record Meaning : Type 1 where
  -- the words are no command
  pub is_usage : Type 0
  -- it asks the disk; any other says the same whatever the disk is
  pub asks_disk : Type 0
  -- it writes, and so it begins with a sync
  pub writes : Bool
  -- it takes memory, of which there may be too little
  pub takes_memory : Type 0
  -- it is done on such a disk alone
  pub is_done : Image → Type 0
  -- and on such a disk it has to be done, where no call fails and there is memory
  pub is_due : Image → Type 0
  -- a text that it prints of this disk
  pub is_text : Image → List ℕ → Type 0
  -- it may answer so on this disk, and whatever the disk gives
  pub answers : Image → Answer → Type 0
  pub knows : Answer → Type 0
  -- with these statuses nothing is done on this disk but what comes first, and that is so, by the history before and behind
  pub keeps : Image → ℕ → Type 0
  pub first : History → History → Type 0
  -- what the disk is where there is too little space, where memory ran out, and where the command is done, by what it was
  pub lacking : Image → Image → Type 0
  pub starved : Image → Image → Type 0
  pub becomes : Image → Image → Type 0
  -- what a crash at any moment since that sync may leave
  pub leaves : Image → Image → Type 0
  -- where it writes, and in which order, by the history before and behind it
  pub order : History → History → Type 0

-- Nothing was called.
abbrev pub IsUncalled : History → History → Type 0
IsUncalled old new = new ≡ old

-- Nothing was called but a sync, which succeeded.
abbrev pub IsSyncedAlone : History → History → Type 0
IsSyncedAlone old new = new ≡ synced_now old

-- Nor that, but that a block 16 which is half turned was put back.
abbrev pub IsSyncedBack : History → History → Type 0
IsSyncedBack old new = IsPutBackAlone (synced_now old) new

-- no order that is told of
abbrev pub AnyOrder : History → History → Type 0
AnyOrder old new = Unit {0}

-- a disk that is as it was
abbrev pub IsSame : Image → Image → Type 0
IsSame disk other = other ≡ disk

-- a command that reads the disk, and writes nothing
abbrev pub reads_disk : (Image → Type 0) → (Image → List ℕ → Type 0) → (Image → Answer → Type 0) → (Answer → Type 0) → Meaning
reads_disk done text refuses known = record {
  is_usage = ⊥;
  asks_disk = Unit {0};
  writes = false;
  takes_memory = Unit {0};
  is_done = done;
  is_due = done;
  is_text = text;
  answers = refuses;
  knows = known;
  keeps = λ disk status. Unit {0};
  first = IsUncalled;
  lacking = IsSame;
  starved = IsSame;
  becomes = IsSame;
  leaves = IsSame;
  order = AnyOrder;
}

-- a command that prints this text, and asks for nothing
abbrev pub says : List ℕ → Meaning
says text = record {
  is_usage = ⊥;
  asks_disk = ⊥;
  writes = false;
  takes_memory = ⊥;
  is_done = λ disk. Unit {0};
  is_due = λ disk. Unit {0};
  is_text = λ disk given. given ≡ text;
  answers = λ disk answer. ⊥;
  knows = λ answer. ⊥;
  keeps = λ disk status. Unit {0};
  first = IsUncalled;
  lacking = IsSame;
  starved = IsSame;
  becomes = IsSame;
  leaves = IsSame;
  order = AnyOrder;
}

-- words that are no command
abbrev pub no_command : Meaning
no_command = record (says []) { is_usage = Unit {0}; is_done = λ disk. ⊥; is_due = λ disk. ⊥ }
