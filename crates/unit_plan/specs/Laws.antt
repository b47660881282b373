-- What every plan keeps.
use Rattle.std.specs.Prelude.{◌≡◌, ℕ, ◌+◌, ◌<◌, ◌≤◌, Bool, List, length, All, AllPairs, Contains}
use Rattle.reiser_bitmap.specs.Units.{IsFreeUnit}
use Rattle.reiser_bitmap.specs.Runs.{AreMaximalRuns, IsMaximalRun}
use Rattle.reiser_bitmap.specs.declared.runs.Run.{Run}
use Rattle.unit_plan.specs.declared.need.Need.{Need}
use Rattle.unit_plan.specs.declared.plan.Plan.{Plan}
use Rattle.unit_plan.specs.Choice.{HasEnoughSpace, IsPlan, is_spare, spare_runs}
use Rattle.unit_plan.specs.Staying.{units_in}

-- so many units, ascending, each of them free
pub record AreFreeUnits (used : List Bool) (count : ℕ) (units : List ℕ) : Type 0 where
  pub many : length units ≡ count
  pub ascending : AllPairs (λ u v. u < v) units
  pub free : All (IsFreeUnit used) units

-- no unit is in both
abbrev pub AreUnitsApart : List ℕ → List ℕ → Type 0
AreUnitsApart xs ys = (u : ℕ) → Contains xs u → Contains ys u → ⊥

-- maximal runs of units that pass, ascending, among them each one of at least 256 units
pub record AreLongRuns (passes : ℕ → Bool) (runs : List Run) : Type 0 where
  pub each : All (IsMaximalRun passes) runs
  pub ascending : AllPairs (λ r s. r.first + r.count < s.first) runs
  pub long : (r : Run) → IsMaximalRun passes r → 256 ≤ r.count → Contains runs r

-- Where at most 1024 units have no use, all of them stay so.
pub record IsSoundPlan (used : List Bool) (need : Need) (plan : Plan) : Type 0 where
  pub system : AreFreeUnits used need.system plan.system
  pub metadata : AreFreeUnits used need.metadata plan.metadata
  pub data_ : AreFreeUnits used need.data_ plan.data_
  pub system_metadata : AreUnitsApart plan.system plan.metadata
  pub system_data : AreUnitsApart plan.system plan.data_
  pub metadata_data : AreUnitsApart plan.metadata plan.data_
  pub unallocated : AreLongRuns (is_spare used plan.system plan.metadata plan.data_) plan.unallocated
  pub few : units_in (spare_runs used plan.system plan.metadata plan.data_) ≤ 1024 → AreMaximalRuns (is_spare used plan.system plan.metadata plan.data_) plan.unallocated

-- a plan has as many free units as are needed, and no unit twice
abbrev pub PlansAreSound : Type 0
PlansAreSound = (used : List Bool) (need : Need) (plan : Plan) → HasEnoughSpace used need → IsPlan used need plan → IsSoundPlan used need plan
