-- Things under numbers.
use Rattle.std.specs.Prelude.{ℕ, ◌==◌, Bool, List}
use Rattle.std.specs.List.Sorted.{IsSortedByKey}
use Rattle.std.specs.Ordering.{nat_cmp}
use Rattle.btr_item_list.specs.declared.spot.Spot.{Spot}

-- it stands under this number
abbrev pub is_under : ℕ → Spot → Bool
is_under n spot = spot.of == n

-- what stands under one number stands together
abbrev pub AscendByObject : List Spot → Type 0
AscendByObject spots = IsSortedByKey (λ spot. spot.of) nat_cmp spots
