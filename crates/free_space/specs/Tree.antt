-- The items of the free space tree, as Linux has them (fs/btrfs/free-space-tree.c). Nothing is told by bitmaps.
use Rattle.std.specs.Prelude.{◌≡◌, ℕ, List, [], ◌∷◌, All, length, map}
use Rattle.std.specs.List.{flat_map}
use Rattle.btr_node.specs.btrfs_format.declared.key.TheConstants.{FREE_SPACE_EXTENT, FREE_SPACE_INFO}
use Rattle.btr_node.specs.btr_keys.Key.{make_key}
use Rattle.btr_node.specs.Leaf.{Item}
use Rattle.free_space.specs.Info.{free_info_bytes}
use Rattle.free_space.specs.Runs.{AreFreeRuns}
use Rattle.free_space.specs.declared.range.Range.{Range}

-- how many free runs a block group has
abbrev pub info_item : Range → ℕ → Item
info_item group count = (make_key group.address FREE_SPACE_INFO group.length, free_info_bytes (record { count = count; flags = 0 }))

abbrev pub run_item : Range → Item
run_item run = (make_key run.address FREE_SPACE_EXTENT run.length, [])

-- a block group with its free runs
abbrev pub group_items : Range → List Range → List Item
group_items group runs = info_item group (length runs) ∷ map run_item runs

-- The items tell of each block group its free runs, and nothing else.
pub record TellsFreeSpace (groups used : List Range) (items : List Item) : Type 0 where
  pub runs : Range → List Range
  pub are_runs : All (λ g. AreFreeRuns used g (runs g)) groups
  pub items_are : items ≡ flat_map (λ g. group_items g (runs g)) groups
