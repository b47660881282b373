-- Addresses that lie one behind the other on the device.
use Rattle.std.specs.Prelude.{◌≡◌, ℕ, ◌+◌, ◌-◌, nat_le, nat_lt, Bool, true, ◌&&◌, List, Option, Some, None, if◌then◌else◌}
use Rattle.btr_check_rules.specs.btr_reader.btr_reader_walk.Map.{place}
use Rattle.btr_check_rules.specs.btr_reader.btr_reader_walk.declared.map.MapRange.{MapRange}
use Rattle.btr_check_sums.specs.declared.place_run.PlaceRun.{PlaceRun}

abbrev pub is_in_run : PlaceRun → ℕ → Bool
is_in_run run a = nat_le run.first a && nat_lt a run.end

-- the places of its addresses are those that the map gives them
abbrev pub TellsPlaces : List MapRange → PlaceRun → Type 0
TellsPlaces ranges run = (a : ℕ) → is_in_run run a ≡ true → place ranges a ≡ Some (run.place + (a - run.first))

-- the place of an address by the addresses in hand
abbrev pub hand_place : Option PlaceRun → ℕ → Option ℕ
hand_place None a = None
hand_place (Some run) a = if is_in_run run a then Some (run.place + (a - run.first)) else None
