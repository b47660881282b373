-- Units of 256 blocks, that is of 1 MiB.
use Rattle.std.specs.Prelude.{◌≡◌, ℕ, ◌+◌, ◌*◌, ◌/◌, ◌≤◌, nat_lt, Bool, false, not, ◌&&◌, List, length, filter}
use Rattle.std.specs.List.{range_with_len, list_all}
use Rattle.refusals.specs.vol_block.Volume.{IsReserved, is_reserved}
use Rattle.reiser_bitmap.specs.Bits.{has}

-- Unit u is blocks 256·u to 256·u + 255. It is free where all of them lie in the volume, and each is unused and not
-- reserved.
pub record IsFreeUnit (used : List Bool) (u : ℕ) : Type 0 where
  pub inside : 256 * u + 256 ≤ length used
  pub unused : (b : ℕ) → b / 256 ≡ u → has used b ≡ false
  pub unreserved : (b : ℕ) → b / 256 ≡ u → ¬ IsReserved b (length used)

-- the same as a test
abbrev pub is_free_block : List Bool → ℕ → Bool
is_free_block used b = nat_lt b (length used) && (not (has used b) && not (is_reserved b (length used)))

unfoldable pub are_free_blocks : List Bool → ℕ → ℕ → Bool
are_free_blocks used first count = list_all (is_free_block used) (range_with_len first count)

unfoldable pub is_free_unit : List Bool → ℕ → Bool
is_free_unit used u = are_free_blocks used (256 * u) 256

-- how many whole units there are
abbrev pub unit_count : List Bool → ℕ
unit_count used = length used / 256

-- the free units, ascending
unfoldable pub free_units : List Bool → List ℕ
free_units used = filter (is_free_unit used) (range_with_len 0 (unit_count used))
