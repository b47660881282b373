-- What an ending means of the disk that was found, and what the sinks gained.
use Rattle.std.specs.Prelude.{◌≡◌, ◌⊎◌, ℕ, ◌≤◌, Bool, IsTrue, List, ◌++◌, take, Option, Some, None, Result, Ok, Err}
use Rattle.reiser_volume.specs.outside.Fault.{Rose}
use Rattle.first_sync.specs.Synced.{EachCrashSynced}
use Rattle.reiser_volume.specs.outside.History.{History, Image, IsSettled, reads}
use Rattle.reiser_volume.specs.outside.declared.fault.Fault as faults
use Rattle.convert_core.specs.command_answers.declared.answer.Answer.TheVariants.{Fault, Memory}
use Rattle.volume_app.specs.declared.ending.Ending.{Ending}
use Rattle.volume_app.specs.declared.ending.Ending.TheVariants.{Done, Usage, Failed, OutputFault}
use Rattle.reiser_volume.specs.vol_block.declared.ids.Ids.{Ids}
use Rattle.volume_app.specs.Command.{Asked, command, inspect, list, convert, recover, rollback, trial, help, version}
use Rattle.volume_app.specs.Converting.{convert_meaning}
use Rattle.volume_app.specs.Ending.{status, error_line}
use Rattle.volume_app.specs.Inspect.{inspect_meaning}
use Rattle.volume_app.specs.Listing.{list_meaning}
use Rattle.volume_app.specs.Recovering.{recover_meaning}
use Rattle.volume_app.specs.RollingBack.{rollback_meaning}
use Rattle.volume_app.specs.Meaning.{Meaning, says, no_command}
use Rattle.volume_app.specs.Texts.{help_text, version_text}
use Rattle.volume_app.specs.Trying.{trial_meaning}

-- what is asked for means, with these identifiers and at this time
abbrev pub meaning : Ids → ℕ → Option Asked → Meaning
meaning ids now None = no_command
meaning ids now (Some (inspect o path)) = inspect_meaning o
meaning ids now (Some (list path)) = list_meaning
meaning ids now (Some (convert o path)) = convert_meaning ids now o
meaning ids now (Some (recover path)) = recover_meaning
meaning ids now (Some (rollback path)) = rollback_meaning
meaning ids now (Some (trial number path)) = trial_meaning ids now number
meaning ids now (Some help) = says help_text
meaning ids now (Some version) = says version_text

-- what words mean
abbrev pub meant : Ids → ℕ → List (List ℕ) → Meaning
meant ids now words = meaning ids now (command words)

-- an ending that a command knows, also over a disk that tells nothing
abbrev pub Knows : Meaning → Ending → Type 0
Knows m Done = Unit {0}
Knows m Usage = m.is_usage
Knows m (Failed answer) = m.knows answer
Knows m OutputFault = Unit {0}

-- an ending is right for the disk that was found
abbrev pub EndsRight : Meaning → Image → Ending → Type 0
EndsRight m disk Done = m.is_done disk
EndsRight m disk Usage = m.is_usage
EndsRight m disk (Failed answer) = m.answers disk answer
EndsRight m disk OutputFault = m.is_done disk

-- an ending of a command that was done, though its text may not be printed whole
abbrev pub IsDoneWith : Ending → Type 0
IsDoneWith Done = Unit {0}
IsDoneWith Usage = ⊥
IsDoneWith (Failed answer) = ⊥
IsDoneWith OutputFault = Unit {0}

-- how a run ends that has printed its text
abbrev pub ending_of : Result (Unit {0}) faults.Fault → Ending
ending_of (Ok done) = Done
ending_of (Err fault) = OutputFault

-- what the output sink gained: a text that is right, or after a fault a first part of one
abbrev pub Prints : (List ℕ → Type 0) → Ending → List ℕ → List ℕ → Type 0
Prints is_text Done old new = (text : List ℕ) × is_text text × (new ≡ old ++ text)
Prints is_text Usage old new = new ≡ old
Prints is_text (Failed answer) old new = new ≡ old
Prints is_text OutputFault old new = (text : List ℕ) × is_text text × ((k : ℕ) × (new ≡ old ++ take k text))

-- an ending that prints nothing
abbrev pub IsQuiet : Ending → Type 0
IsQuiet Done = ⊥
IsQuiet Usage = Unit {0}
IsQuiet (Failed answer) = Unit {0}
IsQuiet OutputFault = ⊥

-- Counts never fall. A fault of the disk or of the output is answered where its count rose, and nowhere else.
pub record HasFaults (ending : Ending) (disk_old disk_new out_old out_new : ℕ) : Type 0 where
  pub disk_later : disk_old ≤ disk_new
  pub out_later : out_old ≤ out_new
  pub device : ending ≡ Failed Fault → Rose disk_old disk_new
  pub device_kept : ¬ (ending ≡ Failed Fault) → disk_new ≡ disk_old
  pub output : ending ≡ OutputFault → Rose out_old out_new
  pub output_kept : ¬ (ending ≡ OutputFault) → out_new ≡ out_old

-- what the error sink gained: the line, or after a fault a first part of it
abbrev pub Reports : List ℕ → ℕ → ℕ → List ℕ → List ℕ → Type 0
Reports line faults_old faults_new old new =
    (new ≡ old ++ line) ⊎ (Rose faults_old faults_new × ((k : ℕ) × (new ≡ old ++ take k line)))

-- The status is that of an ending that the command knows, with its line on the error sink. Where the disk tells its blocks, or the
-- command asks it nothing, the ending is right for it, and the output sink gained its text.
pub record RunsCommand (m : Meaning) (tells : Type 0) (disk : Image) (answer : ℕ) (out_tells : Type 0) (out_old out_new : List ℕ) (err_tells : Type 0) (faults_old faults_new : ℕ) (err_old err_new : List ℕ) : Type 0 where
  pub ending : Ending
  pub answers : answer ≡ status ending
  pub known : Knows m ending
  pub right : (m.asks_disk → tells) → EndsRight m disk ending
  pub printed : (m.asks_disk → tells) → out_tells → Prints (m.is_text disk) ending out_old out_new
  pub reported : err_tells → Reports (error_line ending) faults_old faults_new err_old err_new

-- What is said of a command with this meaning that ended so: of the disk with its history and its faults, and of the output with what it
-- took and its faults, before and after.
pub record Performs (m : Meaning) (tells : Bool) (old new : History) (disk_old disk_new : ℕ) (out_tells : Bool) (taken_old taken_new : List ℕ) (out_old out_new : ℕ) (ending : Ending) : Type 0 where
  pub right : (m.asks_disk → IsTrue tells) → EndsRight m (reads old) ending
  pub known : Knows m ending
  pub printed : (m.asks_disk → IsTrue tells) → IsTrue out_tells → Prints (m.is_text (reads old)) ending taken_old taken_new
  pub quiet : IsTrue out_tells → IsQuiet ending → taken_new ≡ taken_old
  pub memory : ending ≡ Failed Memory → m.takes_memory
  pub unchanged : IsTrue tells → m.keeps (reads old) (status ending) → m.first old new
  pub lacking : IsTrue tells → status ending ≡ 6 → m.lacking (reads old) (reads new) × (IsTrue m.writes → IsSettled new)
  pub starved : IsTrue tells → status ending ≡ 4 → m.starved (reads old) (reads new)
  pub changed : IsTrue tells → IsDoneWith ending → m.becomes (reads old) (reads new)
  pub settled : IsTrue tells → IsTrue m.writes → IsDoneWith ending → IsSettled new
  pub crash : EachCrashSynced tells old new (m.leaves (reads old))
  pub order : IsTrue tells → m.order old new
  pub faults : HasFaults ending disk_old disk_new out_old out_new
