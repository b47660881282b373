-- What an ending means of the device, and what the device and the sink hold behind a run.
use Rattle.std.specs.Prelude.{◌≡◌, ◌⊎◌, ℕ, ◌≤◌, ◌<◌, List, ◌++◌, take, Option, Some, None}
use Rattle.sink_text.specs.outside.Fault.{Rose}
use Rattle.sink_text.specs.outside.History.{History, Image, reads, IsSettled, WritesOnly}
use Rattle.reiser_make.specs.Inner.{needed}
use Rattle.reiser_make.specs.Layout.{IsUsed, laid_over, volume_blocks}
use Rattle.reiser_make.specs.Maker.{usage_of}
use Rattle.reiser_make.specs.Rows.{sample_rows}
use Rattle.reiser_make.specs.Shape.{Shape, shape}
use Rattle.reiser_make_laws.specs.reiser_volume.Volume.{IsAccepted, AreRowsOf}
use Rattle.reiser_make_app.specs.declared.make_ending.MakeEnding.{MakeEnding}
use Rattle.reiser_make_app.specs.declared.make_ending.MakeEnding.TheVariants.{Made, Usage, Short, Full, Fault, Memory}
use Rattle.reiser_make_app.specs.Ending.{status, error_line}
use Rattle.reiser_make_app.specs.Order.{Ordered}

abbrev pub shape_by : Ordered → Shape
shape_by o = shape o.number o.old

-- how many blocks the sample takes
abbrev pub needed_by : Ordered → ℕ
needed_by o = needed (shape_by o)

-- a block that the volume has as used
abbrev pub Uses : Ordered → ℕ → Type 0
Uses o b = IsUsed (usage_of (shape_by o) o.blocks) b

-- a device has all blocks of the sample in their places, and is else as it was
abbrev pub HasSample : Ordered → Image → Image → Type 0
HasSample o old new = new ≡ laid_over (volume_blocks (shape_by o) o.blocks) old

-- Reads give the sample, and so they do after a crash. It is a volume that keeps every rule, and has the rows of its number.
pub record IsMade (o : Ordered) (old new : History) : Type 0 where
  pub written : HasSample o (reads old) (reads new)
  pub settled : IsSettled new
  pub accepted : IsAccepted (reads new)
  pub rows : AreRowsOf (reads new) (sample_rows o.number)

-- an ending is right on a device of so many blocks
abbrev pub FitsDevice : Ordered → ℕ → MakeEnding → Type 0
FitsDevice o device Made = (needed_by o ≤ o.blocks) × (o.blocks ≤ device)
FitsDevice o device Usage = ⊥
FitsDevice o device (Short blocks found) = (blocks ≡ o.blocks) × (found ≡ device) × (device < o.blocks)
FitsDevice o device (Full needed blocks) = (needed ≡ needed_by o) × (blocks ≡ o.blocks) × (o.blocks < needed_by o) × (o.blocks ≤ device)
FitsDevice o device Fault = Unit {0}
FitsDevice o device Memory = o.blocks ≤ device

abbrev pub EndsRight : Option Ordered → ℕ → MakeEnding → Type 0
EndsRight None device ending = ending ≡ Usage
EndsRight (Some o) device ending = FitsDevice o device ending

-- what an ending leaves: the sample, or without a fault what was there
abbrev pub Leaves : Ordered → History → History → MakeEnding → Type 0
Leaves o old new Made = IsMade o old new
Leaves o old new Usage = new ≡ old
Leaves o old new (Short blocks device) = new ≡ old
Leaves o old new (Full needed blocks) = new ≡ old
Leaves o old new Fault = Unit {0}
Leaves o old new Memory = new ≡ old

abbrev pub LeavesDisk : Option Ordered → History → History → MakeEnding → Type 0
LeavesDisk None old new ending = new ≡ old
LeavesDisk (Some o) old new ending = Leaves o old new ending

-- A fault is the ending where the count of the device's faults rose; every other ending leaves the count.
abbrev pub TellsFault : MakeEnding → ℕ → ℕ → Type 0
TellsFault Made before now = now ≡ before
TellsFault Usage before now = now ≡ before
TellsFault (Short blocks device) before now = now ≡ before
TellsFault (Full needed blocks) before now = now ≡ before
TellsFault Fault before now = Rose before now
TellsFault Memory before now = now ≡ before

-- no block was written but those that the volume has as used
abbrev pub OnlyUsed : Option Ordered → History → History → Type 0
OnlyUsed None old new = new ≡ old
OnlyUsed (Some o) old new = WritesOnly (λ b _. Uses o b) old new

-- the words order a sample, its volume has room for it, and the device for the volume
abbrev pub HasSampleRoom : Option Ordered → ℕ → Type 0
HasSampleRoom None device = ⊥
HasSampleRoom (Some o) device = (needed_by o ≤ o.blocks) × (o.blocks ≤ device)

-- what the error sink gained: the line, or after a fault a first part of it
abbrev pub Reports : List ℕ → ℕ → ℕ → List ℕ → List ℕ → Type 0
Reports line faults_old faults_new old new =
    (new ≡ old ++ line) ⊎ (Rose faults_old faults_new × ((k : ℕ) × (new ≡ old ++ take k line)))

-- The status is that of an ending that is right on the device, with its line on the error sink. Of a device that tells its
-- blocks it leaves what it says.
pub record RunsMaker (order : Option Ordered) (device answer : ℕ) (tells : Type 0) (old new : History) (err_tells : Type 0) (faults_old faults_new : ℕ) (err_old err_new : List ℕ) : Type 0 where
  pub ending : MakeEnding
  pub answers : answer ≡ status ending
  pub right : EndsRight order device ending
  pub left : tells → LeavesDisk order old new ending
  pub reported : err_tells → Reports (error_line ending) faults_old faults_new err_old err_new
