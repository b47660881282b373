-- The chunks that a plan makes of a volume, by the plan and the number of blocks alone.
use Rattle.std.specs.Prelude.{◌≡◌, ◌≢◌, ◌⊎◌, ℕ, ◌+◌, ◌*◌, ◌%◌, ◌≤◌, ◌<◌, nat_lt, min, Bool, not, ◌&&◌, ◌||◌, if◌then◌else◌, List, length, Option, Some, None, All, AllPairs, Any}
use Rattle.std.specs.List.{list_any}
use Rattle.reiser_bitmap.specs.Runs.{free_runs}
use Rattle.reiser_bitmap.specs.declared.runs.Run.{Run}
use Rattle.unit_plan.specs.declared.chunk.PlannedChunk.{PlannedChunk}
use Rattle.unit_plan.specs.declared.chunk.Role.{Role}
use Rattle.unit_plan.specs.declared.chunk.Role.TheVariants.{System, Metadata, Data}
use Rattle.unit_plan.specs.declared.need.Need.{Need}
use Rattle.unit_plan.specs.declared.plan.Plan.{Plan}
pub use Rattle.unit_plan.specs.Choice.{usable_end}
use Rattle.unit_plan.specs.Choice.{HasEnoughSpace, IsPlan, is_in, is_among, holds_data, is_spare}
use Rattle.unit_plan.specs.Needed.{chunk_bound}

-- a unit of one of the runs
abbrev pub is_in_runs : List Run → ℕ → Bool
is_in_runs runs u = list_any (λ r. is_in r.first r.count u) runs

-- what a unit is used for, where it is used at all
abbrev pub role_by : Bool → Bool → Bool → Option Role
role_by used system metadata = if used then Some (if system then System else if metadata then Metadata else Data) else None

-- Unit 0 is reserved. Any other unit that has usable blocks has a role, unless it lies in a run of units without use.
unfoldable pub has_role : Plan → ℕ → ℕ → Bool
has_role plan blocks u = nat_lt 0 u && (nat_lt (256 * u) (usable_end blocks) && not (is_in_runs plan.unallocated u))

unfoldable pub role_of : Plan → ℕ → ℕ → Option Role
role_of plan blocks u = role_by (has_role plan blocks u) (is_among plan.system u) (is_among plan.metadata u)

-- A chunk: units from a first one to before an end, all of one role. It begins at a multiple of 1024 units or behind a unit
-- of another role, and ends before one; where the usable blocks end within its last unit, it ends with them.
pub record IsChunk (role : ℕ → Option Role) (usable : ℕ) (c : PlannedChunk) : Type 0 where
  pub first : ℕ
  pub end : ℕ
  pub some : first < end
  pub starts : c.start ≡ 256 * first
  pub ends : c.start + c.length ≡ min usable (256 * end)
  pub not_empty : 1 ≤ c.length
  pub one_role : (u : ℕ) → first ≤ u → u < end → role u ≡ Some c.role
  pub uncut : (u : ℕ) → first < u → u < end → u % 1024 ≢ 0
  pub before : (first % 1024 ≡ 0) ⊎ ((u : ℕ) → u + 1 ≡ first → role u ≢ Some c.role)
  pub behind : (end % 1024 ≡ 0) ⊎ (role end ≢ Some c.role)

-- the unit's first block lies in the chunk
pub record HoldsUnit (c : PlannedChunk) (u : ℕ) : Type 0 where
  pub low : c.start ≤ 256 * u
  pub high : 256 * u < c.start + c.length

-- Chunks ascend and do not overlap, and each unit that has a role lies in one.
pub record AreChunksBy (role : ℕ → Option Role) (usable : ℕ) (chunks : List PlannedChunk) : Type 0 where
  pub each : All (IsChunk role usable) chunks
  pub ascending : AllPairs (λ c d. c.start + c.length ≤ d.start) chunks
  pub whole : (u : ℕ) (r : Role) → role u ≡ Some r → Any (λ c. HoldsUnit c u) chunks

abbrev pub AreChunks : Plan → ℕ → List PlannedChunk → Type 0
AreChunks plan blocks = AreChunksBy (role_of plan blocks) (usable_end blocks)

-- the units of a plan begin on a volume of so many blocks
pub record FitsVolume (plan : Plan) (blocks : ℕ) : Type 0 where
  pub system : All (λ u. 256 * u < blocks) plan.system
  pub metadata : All (λ u. 256 * u < blocks) plan.metadata
  pub unallocated : All (λ r. 256 * (r.first + r.count) < blocks + 256) plan.unallocated

-- the unit is chosen for data, or holds some
abbrev pub is_data_unit : List Bool → Plan → ℕ → Bool
is_data_unit used plan u = is_among plan.data_ u || holds_data used u

-- the unit is spare, and stays in no unallocated run
abbrev pub is_filler : List Bool → Plan → ℕ → Bool
is_filler used plan u = is_spare used plan.system plan.metadata plan.data_ u && not (is_in_runs plan.unallocated u)

-- what a unit from unit 1 on is used for, by the lists that name it
abbrev pub use_of : List Bool → Plan → ℕ → Option Role
use_of used plan u =
    if is_among plan.system u then Some System else if is_among plan.metadata u then Some Metadata else if is_data_unit used plan u || is_filler used plan u then Some Data else None

-- a unit that a list names or that holds data has that use, and the spare units of runs that do not stay are for data
abbrev pub RolesAreUses : Type 0
RolesAreUses =
    (used : List Bool) (need : Need) (plan : Plan) → HasEnoughSpace used need → IsPlan used need plan
    → (u : ℕ) → 1 ≤ u → role_of plan (length used) u ≡ use_of used plan u

-- there are no more chunks than the bound has that the needed space was counted with
abbrev pub ChunksAreFew : Type 0
ChunksAreFew =
    (used : List Bool) (need : Need) (plan : Plan) (chunks : List PlannedChunk) → HasEnoughSpace used need → IsPlan used need plan
    → AreChunks plan (length used) chunks → length chunks ≤ chunk_bound (length (free_runs used)) (length used)

-- the units of a plan lie on its volume
abbrev pub PlansFit : Type 0
PlansFit = (used : List Bool) (need : Need) (plan : Plan) → HasEnoughSpace used need → IsPlan used need plan → FitsVolume plan (length used)
