-- The promise of the program, in one place.
use Rattle.std.specs.Prelude.{◌≡◌, ◌⊎◌, ◌<◌, ◌-◌, ◌^◌, ℕ, Option, Some, None}
use Rattle.convert_core.specs.Converted.{IsConvertible}
use Rattle.reiser_volume.specs.outside.History.{Image, History, LeftSince, clock, reads}
use Rattle.rollback_core.specs.Recovered.{IsRecoverable}
use Rattle.volume_state.specs.GoingBack.{CanGoBack}
use Rattle.trial_core.specs.Laws.{IsSampleAgain}
use Rattle.super_turn.specs.PutBack.{put_back}
use Rattle.volume_app.specs.Command.{Asked, inspect, list, convert, recover, rollback, trial, help, version}
use Rattle.volume_app.specs.Trees.{IsConvertedTree, IsRestoredTree, KeepsTree, LeavesConvertedTree, LeavesRestoredTree}
use Rattle.volume_app.specs.Trying.{IsTriable}
use Rattle.first_sync.specs.Synced.{CrashesSynced, GoesOn, synced_now}

-- A command that writes is to be done on this disk: `convert` where an accepted ReiserFS volume has the stated free space, `rollback` where
-- the saved image is untouched, `recover` where superblock, journal and bitmap, or the superblock of Btrfs, keep their rules, `trial` where
-- the disk has no volume and blocks enough, and the sample has room and the space for a conversion.
abbrev pub IsToBeDone : Option Asked → Image → Type 0
IsToBeDone None disk = ⊥
IsToBeDone (Some (inspect o path)) disk = ⊥
IsToBeDone (Some (list path)) disk = ⊥
IsToBeDone (Some (convert o path)) disk = IsConvertible o disk
IsToBeDone (Some (recover path)) disk = IsRecoverable disk
IsToBeDone (Some (rollback path)) disk = CanGoBack disk
IsToBeDone (Some (trial number path)) disk = IsTriable number disk
IsToBeDone (Some help) disk = ⊥
IsToBeDone (Some version) disk = ⊥

-- What a command that was done makes of the tree of a disk; a trial leaves that of its sample. A conversion begins with putting back a block 16
-- that is half turned.
abbrev pub MakesTree : Option Asked → Image → Image → Type 0
MakesTree None disk other = other ≡ disk
MakesTree (Some (inspect o path)) disk other = other ≡ disk
MakesTree (Some (list path)) disk other = other ≡ disk
MakesTree (Some (convert o path)) disk other = IsConvertedTree (put_back disk) other
MakesTree (Some (recover path)) disk other = KeepsTree disk other
MakesTree (Some (rollback path)) disk other = IsRestoredTree disk other
MakesTree (Some (trial number path)) disk other = IsSampleAgain number disk other
MakesTree (Some help) disk other = other ≡ disk
MakesTree (Some version) disk other = other ≡ disk

-- what a crash at any moment of a command, since its first sync, leaves of it: one of the two formats, with its tree. Of a trial, whose disk had no volume, nothing
-- is said.
abbrev pub LeavesTree : Option Asked → Image → Image → Type 0
LeavesTree None disk other = other ≡ disk
LeavesTree (Some (inspect o path)) disk other = other ≡ disk
LeavesTree (Some (list path)) disk other = other ≡ disk
LeavesTree (Some (convert o path)) disk other = LeavesConvertedTree disk other
LeavesTree (Some (recover path)) disk other = KeepsTree disk other
LeavesTree (Some (rollback path)) disk other = LeavesRestoredTree disk other
LeavesTree (Some (trial number path)) disk other = Unit {0}
LeavesTree (Some help) disk other = other ≡ disk
LeavesTree (Some version) disk other = other ≡ disk

-- What a crash of the command left is one on which `recover` is to be done, in the one format that it has. Of a trial nothing is said.
abbrev pub CanRecover : Option Asked → Image → Type 0
CanRecover (Some (convert o path)) left = IsRecoverable left
CanRecover (Some (recover path)) left = IsRecoverable left
CanRecover (Some (rollback path)) left = IsRecoverable left
CanRecover (Some (trial number path)) left = Unit {0}
CanRecover None left = Unit {0}
CanRecover (Some (inspect o path)) left = Unit {0}
CanRecover (Some (list path)) left = Unit {0}
CanRecover (Some help) left = Unit {0}
CanRecover (Some version) left = Unit {0}

-- No call of the disk or of the output failed: by the counts of faults of both before and behind, which have 64 bits and stay at the last number.
pub record NoneFailed (disk_old disk_new out_old out_new : ℕ) : Type 0 where
  pub disk : disk_new ≡ disk_old
  pub disk_low : disk_old < 2 ^ 64 - 1
  pub out : out_new ≡ out_old
  pub out_low : out_old < 2 ^ 64 - 1

-- What is promised of a run on a disk with any history, whether or not writes from before wait on it: with the history behind the run, its
-- status, and the counts of faults of the disk and of the output before and behind.
pub record KeepsPromise (asked : Option Asked) (old new : History) (status disk_old disk_new out_old out_new : ℕ) : Type 0 where
  -- it succeeds, unless a call failed or memory ran out
  pub succeeds : IsToBeDone asked (reads old) → NoneFailed disk_old disk_new out_old out_new → (status ≡ 0) ⊎ (status ≡ 4)
  -- then the tree is what it is to be
  pub makes : (status ≡ 0) ⊎ (status ≡ 5) → MakesTree asked (reads old) (reads new)
  -- the history behind the run is the one before, with some more calls if any
  pub goes_on : GoesOn old new
  -- Nothing is called before a sync that succeeds, so until then a crash leaves what it would have left before the run. A crash at any moment
  -- since then leaves exactly one of the two formats, with its tree.
  pub crash : CrashesSynced old new (LeavesTree asked (reads old))
  -- and where the command was to be done `recover` opens it
  pub opens : IsToBeDone asked (reads old) → (left : Image) → LeftSince (clock (synced_now old)) new left → CanRecover asked left
