-- Which runs of units without use stay unallocated: the long ones, and of the others the longest.
use Rattle.std.specs.Prelude.{ℕ, ◌+◌, ◌/◌, nat_lt, nat_le, ◌==◌, Bool, ◌&&◌, ◌||◌, List}
use Rattle.std.specs.List.{filter, sum_by}
use Rattle.reiser_bitmap.specs.declared.runs.Run.{Run}

-- the units that runs have together
unfoldable pub units_in : List Run → ℕ
units_in runs = sum_by (λ r. r.count) runs

-- a run has more units than so many
abbrev pub is_longer : ℕ → Run → Bool
is_longer n run = nat_lt n run.count

-- a run has so many
abbrev pub is_as_long : ℕ → Run → Bool
is_as_long n run = run.count == n

-- another run is longer than a run, or as long and lower
abbrev pub is_ahead : Run → Run → Bool
is_ahead run other = is_longer run.count other || (is_as_long run.count other && nat_lt other.first run.first)

-- A run stays where it has at least 256 units, or where the runs ahead of it have less than 1024 units and a 64th of all.
abbrev pub stays : List Run → Run → Bool
stays runs run = nat_le 256 run.count || nat_lt (units_in (filter (is_ahead run) runs)) (1024 + units_in runs / 64)

unfoldable pub staying : List Run → List Run
staying runs = filter (stays runs) runs
