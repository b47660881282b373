-- Which units of 1 MiB a conversion takes, and which stay without use.
use Rattle.std.specs.Prelude.{◌≡◌, ℕ, ◌+◌, ◌*◌, ◌/◌, ◌≤◌, ◌<◌, ◌^◌, max, nat_lt, nat_le, ◌==◌, Bool, not, ◌&&◌, ◌||◌, List, length, take, drop, slice_index_or}
use Rattle.std.specs.List.{fold, filter, list_any, range_with_len}
use Rattle.std.specs.Int.{div_ceil}
use Rattle.reiser_bitmap.specs.vol_block.Volume.{is_reserved}
use Rattle.reiser_bitmap.specs.declared.runs.Run.{Run}
use Rattle.reiser_bitmap.specs.Bits.{has}
use Rattle.reiser_bitmap.specs.Units.{is_free_unit, free_units, unit_count}
use Rattle.reiser_bitmap.specs.Runs.{free_runs, maximal_runs}
use Rattle.unit_plan.specs.Staying.{staying}
use Rattle.unit_plan.specs.declared.need.Need.{Need}
use Rattle.unit_plan.specs.declared.plan.Plan.{Plan}
use Rattle.unit_plan.specs.declared.plan.PlanAnswer.{PlanAnswer}
use Rattle.unit_plan.specs.declared.plan.PlanAnswer.TheVariants.{NoSpace, Memory}

-- the most units that a run of free units has
unfoldable pub longest_run : List Bool → ℕ
longest_run used = fold (λ most run. max most run.count) 0 (free_runs used)

-- the units are there, and those for the chunk tree in one run
pub record HasEnoughSpace (used : List Bool) (need : Need) : Type 0 where
  pub units : need.system + need.metadata + need.data_ ≤ length (free_units used)
  pub run : need.system ≤ longest_run used

-- a run has so many units
abbrev pub is_long : ℕ → Run → Bool
is_long n run = nat_le n run.count

-- where the lowest run of free units begins that has so many
unfoldable pub lowest_long : ℕ → List Run → ℕ
lowest_long n runs = (slice_index_or (filter (is_long n) runs) 0 (record { first = 0; count = 0 })).first

-- one of the n units from a first one on
abbrev pub is_in : ℕ → ℕ → ℕ → Bool
is_in first n u = nat_le first u && nat_lt u (first + n)

abbrev pub is_other : List Bool → ℕ → ℕ → ℕ → Bool
is_other used first n u = is_free_unit used u && not (is_in first n u)

-- the free units without n of them from a first one on, ascending
unfoldable pub others : List Bool → ℕ → ℕ → List ℕ
others used first n = filter (is_other used first n) (range_with_len 0 (unit_count used))

-- Where the blocks end that a chunk may hold: those behind the last multiple of 64 KiB are reserved.
abbrev pub usable_end : ℕ → ℕ
usable_end blocks = 16 * (blocks / 16)

-- how many units have such blocks
abbrev pub usable_units : List Bool → ℕ
usable_units used = div_ceil (usable_end (length used)) 256

abbrev pub is_data : List Bool → ℕ → Bool
is_data used b = has used b && not (is_reserved b (length used))

-- an unreserved used block lies in the unit
unfoldable pub holds_data : List Bool → ℕ → Bool
holds_data used u = list_any (is_data used) (range_with_len (256 * u) 256)

abbrev pub is_among : List ℕ → ℕ → Bool
is_among units u = list_any (λ v. v == u) units

-- one of three lists has the unit
unfoldable pub is_chosen : List ℕ → List ℕ → List ℕ → ℕ → Bool
is_chosen system metadata data_ u = is_among system u || (is_among metadata u || is_among data_ u)

-- A spare unit has no use: it is neither chosen nor holds data. Unit 0 is reserved, and so is no spare one.
abbrev pub is_spare : List Bool → List ℕ → List ℕ → List ℕ → ℕ → Bool
is_spare used system metadata data_ u =
    nat_lt 0 u && (nat_lt u (usable_units used) && not (is_chosen system metadata data_ u || holds_data used u))

-- the maximal runs of spare units
unfoldable pub spare_runs : List Bool → List ℕ → List ℕ → List ℕ → List Run
spare_runs used system metadata data_ = maximal_runs (is_spare used system metadata data_) (usable_units used)

-- The plan whose units for the chunk tree begin at a first one: of the other free units the first are for metadata and the
-- next for data. The spare units stay unallocated where they lie in a run that stays, and are for data elsewhere.
pub record IsPlanAt (used : List Bool) (need : Need) (first : ℕ) (plan : Plan) : Type 0 where
  pub system : plan.system ≡ range_with_len first need.system
  pub metadata : plan.metadata ≡ take need.metadata (others used first need.system)
  pub data_ : plan.data_ ≡ take need.data_ (drop need.metadata (others used first need.system))
  pub unallocated : plan.unallocated ≡ staying (spare_runs used plan.system plan.metadata plan.data_)

-- The plan for a volume: the units for the chunk tree are the first ones of the lowest run that is long enough.
abbrev pub IsPlan : List Bool → Need → Plan → Type 0
IsPlan used need plan = IsPlanAt used need (lowest_long need.system (free_runs used)) plan

-- the refusal says how many units are needed and are free, and how many in one run
pub record TellsSpace (used : List Bool) (need : Need) (needed free run_needed longest : ℕ) : Type 0 where
  pub missing : ¬ HasEnoughSpace used need
  pub needed_is : needed ≡ need.system + need.metadata + need.data_
  pub free_is : free ≡ length (free_units used)
  pub run_needed_is : run_needed ≡ need.system
  pub longest_is : longest ≡ longest_run used

abbrev pub IsAnswer : List Bool → Need → PlanAnswer → Type 0
IsAnswer used need (NoSpace needed free run_needed longest) = TellsSpace used need needed free run_needed longest
IsAnswer used need Memory = Unit {0}

-- numbers of units that can be added
pub record IsSmallNeed (need : Need) : Type 0 where
  pub system : need.system < 2 ^ 60
  pub metadata : need.metadata < 2 ^ 60
  pub data_ : need.data_ < 2 ^ 60
