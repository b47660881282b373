-- What holds of what `inspect` and `list` print, of a volume that is converted and rolled back, and of what is promised of crashes.
use Rattle.std.specs.Prelude.{◌≡◌, ◌⊎◌, ◌≤◌, ℕ, List, [], ◌∷◌, Option, Some, None}
use Rattle.convert_core.specs.convert_steps.Prepared.{LacksSpace}
use Rattle.unit_plan.specs.convert_options.declared.options.Options.{Options}
use Rattle.reiser_volume.specs.Volume.{used_of}
use Rattle.reiser_volume.specs.reiser_volume_contents.Laws.{SameUsed}
use Rattle.reiser_volume.specs.outside.Format.{format_in}
use Rattle.first_sync.specs.Synced.{CrashesSynced}
use Rattle.reiser_volume.specs.outside.History.{History, Image, IsSettled, LeftSince, MayLeave, clock, reads}
use Rattle.unit_plan.specs.Choice.{longest_run}
use Rattle.convert_core_laws.specs.going_back.Back.{GoesBack}
use Rattle.convert_core_laws.specs.opening.Opens.{OpensAsBefore, StandsAsBefore}
use Rattle.reiser_volume.specs.Laws.{IsSameVolume}
use Rattle.super_turn.specs.PutBack.{put_back}
use Rattle.volume_state.specs.Laws.{CanGoBackToo}
use Rattle.volume_state.specs.Saved.{image_blocks}
use Rattle.volume_app.specs.Command.{Asked, inspect, list, convert, recover, rollback, trial, help, version}
use Rattle.volume_app.specs.Headline.{CanRecover, IsToBeDone, LeavesTree}
use Rattle.volume_app.specs.Trees.{IsConvertedTree, IsRestoredTree, KeepsTree}
use Rattle.volume_app.specs.Inspect.{IsInspectText}
use Rattle.volume_app.specs.Listing.{IsListText, IsListable}
use Rattle.volume_app.specs.Reiser.{IsReiserSummary}
use Rattle.volume_app.specs.declared.reiser.ReiserSummary.{ReiserSummary}

-- two texts that `inspect` with some options may print of one disk are equal
abbrev pub InspectTextsAreOne : Type 0
InspectTextsAreOne = (o : Options) (disk : Image) (text other : List ℕ) → IsInspectText o (format_in disk) disk text → IsInspectText o (format_in disk) disk other → text ≡ other

-- What `inspect` tells of the space is what `convert` with the same options goes by. Where no more units are needed than are free, and no
-- more in one run than the longest one has, `convert` is not refused for want of space; and where it is, its numbers are those. Before it looks
-- at the space it puts back a block 16 that is half turned.
pub record TellsSpaceFor (o : Options) (disk : Image) (told : ReiserSummary) : Type 0 where
  pub suffices : told.needed ≤ told.units → told.run ≤ longest_run (used_of disk) → (needed free run longest : ℕ) → ¬ LacksSpace (put_back disk) o needed free run longest
  pub same : (needed free run longest : ℕ) → LacksSpace (put_back disk) o needed free run longest → (needed ≡ told.needed) × (free ≡ told.units) × (run ≡ told.run) × (longest ≡ longest_run (used_of disk))

abbrev pub InspectTellsSpace : Type 0
InspectTellsSpace = (o : Options) (disk : Image) (told : ReiserSummary) → IsReiserSummary o disk told → TellsSpaceFor o disk told

-- two texts that `list` may print of one disk are equal
abbrev pub ListTextsAreOne : Type 0
ListTextsAreOne = (disk : Image) (text other : List ℕ) → IsListable (format_in disk) disk → IsListText disk text → IsListText disk other → text ≡ other

-- a disk has each used block of a volume as it was, and so the same volume
pub record IsHadBack (disk other : Image) : Type 0 where
  pub used : SameUsed (used_of disk) disk other
  pub volume : IsSameVolume disk other

-- What `rollback` makes of a converted volume is the volume before.
abbrev pub RollbackUndoesConvert : Type 0
RollbackUndoesConvert = (disk other back : Image) → IsConvertedTree disk other → IsRestoredTree other back → IsHadBack disk back

-- What the promise comes to for a crash at any moment of a command, also before its first sync. Where nothing waited when the command began
-- the crash leaves one of the two formats, with its tree. On any other disk it does so, or leaves what a crash before could have left.
pub record CrashesAtAnyMoment : Type 0 where
  pub settled : (asked : Option Asked) (old new : History) → CrashesSynced old new (LeavesTree asked (reads old)) → IsSettled old → (left : Image) → LeftSince (clock old) new left → LeavesTree asked (reads old) left
  pub any : (asked : Option Asked) (old new : History) → CrashesSynced old new (LeavesTree asked (reads old)) → (left : Image) → LeftSince (clock old) new left → MayLeave old.start old.calls left ⊎ LeavesTree asked (reads old) left

-- ---- a crash, and then `recover`

-- A crash at some moment of a run of `recover` leaves the second of two disks. On the first, which a crash left too, nothing waits as the run
-- begins, and the run keeps what is promised of crashes.
pub record IsCutOff (disk left : Image) : Type 0 where
  pub path : List ℕ
  pub old : History
  pub new : History
  pub begins : reads old ≡ disk
  pub settled : IsSettled old
  pub crash : CrashesSynced old new (LeavesTree (Some (recover path)) (reads old))
  pub moment : LeftSince (clock old) new left

-- Runs of `recover`, one after the other, each of which a crash cuts off, with the disks that they leave. The last of these is the second
-- disk; without a run it is the first.
abbrev pub AreCutOff : Image → List Image → Image → Type 0
AreCutOff disk [] last = last ≡ disk
AreCutOff disk (left ∷ more) last = IsCutOff disk left × AreCutOff left more last

-- What stands in the end, of exactly one of the two formats: of a conversion the old volume with its tree, or the Btrfs volume with the same
-- and from which the old one can be had back; of a rollback the Btrfs volume, or the old one; and of a recovery the volume that was there.
abbrev pub StandsInTheEnd : Option Asked → Image → Image → Type 0
StandsInTheEnd (Some (convert o path)) disk last = StandsAsBefore (put_back disk) last ⊎ (OpensAsBefore (put_back disk) last × GoesBack (put_back disk) last)
StandsInTheEnd (Some (recover path)) disk last = KeepsTree disk last
StandsInTheEnd (Some (rollback path)) disk last = CanGoBackToo disk last ⊎ IsSameVolume (image_blocks disk) last
StandsInTheEnd (Some (trial number path)) disk last = Unit {0}
StandsInTheEnd None disk last = Unit {0}
StandsInTheEnd (Some (inspect o path)) disk last = Unit {0}
StandsInTheEnd (Some (list path)) disk last = Unit {0}
StandsInTheEnd (Some help) disk last = Unit {0}
StandsInTheEnd (Some version) disk last = Unit {0}

-- A command that is to be done is cut off by a crash, and so are any number of runs of `recover` after it. Then `recover` opens the disk that
-- is left, and what is promised of one crash stands on it.
abbrev pub RecoversAfterCrashes : Type 0
RecoversAfterCrashes =
    (asked : Option Asked) (disk left last : Image) (cuts : List Image) → IsToBeDone asked disk → LeavesTree asked disk left → AreCutOff left cuts last
    → CanRecover asked last × StandsInTheEnd asked disk last
