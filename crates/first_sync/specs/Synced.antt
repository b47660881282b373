-- A command that begins with a sync, and what a crash of it may leave.
use Rattle.std.specs.Prelude.{◌≡◌, ◌⊎◌, Bool, IsTrue}
use Rattle.outside.specs.History.{History, Image, LeftSince, WritesOnly, after, clock, synced}

-- the calls of a history, and some more
abbrev pub GoesOn : History → History → Type 0
GoesOn old new = WritesOnly (λ b bytes. Unit {0}) old new

-- the history behind a sync that succeeded
abbrev pub synced_now : History → History
synced_now h = after synced h

-- Nothing was called, or first of all a sync, that succeeded. So when anything is written all that waited has reached the device.
abbrev pub SyncsFirst : History → History → Type 0
SyncsFirst old new = (new ≡ old) ⊎ GoesOn (synced_now old) new

-- A command that begins with a sync, and what is said of each image that a crash may leave at any moment since that has succeeded. Until
-- then nothing is written, and a crash leaves what it would have left before the command.
pub record CrashesSynced (old new : History) (says : Image → Type 0) : Type 0 where
  pub first : SyncsFirst old new
  pub since : (image : Image) → LeftSince (clock (synced_now old)) new image → says image

-- the same of a disk that tells its blocks
abbrev pub EachCrashSynced : Bool → History → History → (Image → Type 0) → Type 0
EachCrashSynced tells old new says = IsTrue tells → CrashesSynced old new says
