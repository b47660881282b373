-- The promise of the program, from what is said of each command.
use Rattle.volume_app.proofs.Imports.{ℕ, Bool, List, Some, None, IsTrue, Option, turned, first_goes_on, History, Image, reads, Ids, Asked, inspect, list, convert, recover, rollback, trial, help, version, status, IsToBeDone, KeepsPromise, LeavesTree, MakesTree, Performs, meaning, AreBlocks, Ending, recovers_back}
use Rattle.volume_app.proofs.Outcomes.{done_by, done_or_memory}
use Rattle.volume_app.proofs.Convertible.{convertible_back}
use Rattle.volume_app.proofs.Recoveries.{can_recover}

to_be_done : (ids : Ids) (now : ℕ) (asked : Option Asked) (disk : Image) → AreBlocks disk → IsToBeDone asked disk → (meaning ids now asked).is_due disk
to_be_done ids now None disk blocks is = absurd is
to_be_done ids now (Some (inspect o path)) disk blocks is = absurd is
to_be_done ids now (Some (list path)) disk blocks is = absurd is
to_be_done ids now (Some (convert o path)) disk blocks is = convertible_back o disk is
to_be_done ids now (Some (recover path)) disk blocks is = recovers_back disk is
to_be_done ids now (Some (rollback path)) disk blocks is = is
to_be_done ids now (Some (trial number path)) disk blocks is = (is, blocks.bytes)
to_be_done ids now (Some help) disk blocks is = absurd is
to_be_done ids now (Some version) disk blocks is = absurd is

makes : (ids : Ids) (now : ℕ) (asked : Option Asked) (disk other : Image) → AreBlocks disk → (meaning ids now asked).becomes disk other → MakesTree asked disk other
makes ids now None disk other blocks becomes = becomes
makes ids now (Some (inspect o path)) disk other blocks becomes = becomes
makes ids now (Some (list path)) disk other blocks becomes = becomes
makes ids now (Some (convert o path)) disk other blocks becomes = becomes.tree blocks
makes ids now (Some (recover path)) disk other blocks becomes = becomes.tree
makes ids now (Some (rollback path)) disk other blocks becomes = becomes.tree
makes ids now (Some (trial number path)) disk other blocks becomes = becomes.sample blocks.bytes
makes ids now (Some help) disk other blocks becomes = becomes
makes ids now (Some version) disk other blocks becomes = becomes

leaves : (ids : Ids) (now : ℕ) (asked : Option Asked) (disk other : Image) → AreBlocks disk → (meaning ids now asked).leaves disk other → LeavesTree asked disk other
leaves ids now None disk other blocks is = is
leaves ids now (Some (inspect o path)) disk other blocks is = is
leaves ids now (Some (list path)) disk other blocks is = is
leaves ids now (Some (convert o path)) disk other blocks is = is.tree blocks
leaves ids now (Some (recover path)) disk other blocks is = is.tree
leaves ids now (Some (rollback path)) disk other blocks is = is.tree
leaves ids now (Some (trial number path)) disk other blocks is = tt
leaves ids now (Some help) disk other blocks is = is
leaves ids now (Some version) disk other blocks is = is

pub keeps_promise : (ids : Ids) (now : ℕ) (asked : Option Asked) (tells : Bool) (old new : History) (disk_old disk_new : ℕ) (out_tells : Bool) (taken_old taken_new : List ℕ) (out_old out_new : ℕ) (ending : Ending)
    → IsTrue tells → AreBlocks (reads old) → Performs (meaning ids now asked) tells old new disk_old disk_new out_tells taken_old taken_new out_old out_new ending
    → KeepsPromise asked old new (status ending) disk_old disk_new out_old out_new
keeps_promise ids now asked tells old new disk_old disk_new out_tells taken_old taken_new out_old out_new ending told blocks performs = record {
  succeeds = λ done none. done_or_memory ids now asked (reads old) ending disk_old disk_new out_old out_new (to_be_done ids now asked (reads old) blocks done) (performs.right (λ asks. told)) performs.faults none.disk none.disk_low none.out none.out_low;
  makes = λ is. makes ids now asked (reads old) (reads new) blocks (performs.changed told (done_by ending is));
  goes_on = first_goes_on old new (performs.crash told).first;
  crash = turned _ _ old new (λ left is. leaves ids now asked (reads old) left blocks is) (performs.crash told);
  opens = λ done left is. can_recover asked (reads old) left done (leaves ids now asked (reads old) left blocks ((performs.crash told).since left is));
}
