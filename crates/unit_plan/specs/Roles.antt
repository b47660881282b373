-- The roles of units, by sets of units.
use Rattle.std.specs.Prelude.{ℕ, ◌*◌, nat_lt, Bool, not, ◌&&◌, List, Option}
use Rattle.reiser_bitmap.specs.Bits.{has}
use Rattle.unit_plan.specs.Chunks.{role_by}
use Rattle.unit_plan.specs.declared.chunk.Role.{Role}

-- the sets of a plan's units, and where the usable blocks end
pub record RoleSets : Type 0 where
  pub system : List Bool
  pub metadata : List Bool
  pub unallocated : List Bool
  pub usable : ℕ

abbrev pub role_in : RoleSets → ℕ → Option Role
role_in s u = role_by (nat_lt 0 u && (nat_lt (256 * u) s.usable && not (has s.unallocated u))) (has s.system u) (has s.metadata u)
