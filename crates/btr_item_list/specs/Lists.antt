-- A list of items as one list of bytes.
use Rattle.std.specs.Prelude.{◌≤◌, ℕ, List, map, slice_range}
use Rattle.std.specs.List.{flat_map}
use Rattle.btr_node.specs.btr_keys.Key.{make_key}
use Rattle.btr_node.specs.Leaf.{Item}
use Rattle.btr_item_list.specs.Groups.{AreGroups, grouped}
use Rattle.btr_item_list.specs.declared.list.ItemRange.{ItemRange}

-- the item of a head
abbrev pub item_by : List ℕ → ItemRange → Item
item_by bytes h = (h.key, slice_range bytes h.start h.end)

-- the body lies within so many bytes
pub record IsBodyWithin (n : ℕ) (h : ItemRange) : Type 0 where
  pub ordered : h.start ≤ h.end
  pub within : h.end ≤ n

abbrev pub offset_of : Item → ℕ
offset_of i = i.0.offset

-- the item of an object and kind that some records make, which have one offset
abbrev pub joined_item : ℕ → ℕ → ℕ × List Item → Item
joined_item objectid kind g = (make_key objectid kind g.0, flat_map (λ i. i.1) g.1)

-- an item for each offset, in it the records in their order
abbrev pub joined : ℕ → ℕ → List Item → List Item
joined objectid kind records = map (joined_item objectid kind) (grouped offset_of records)

-- Grouping gives groups.
abbrev pub GroupsAreGroups : Type 0
GroupsAreGroups = (number : Item → ℕ) (items : List Item) → AreGroups number items (grouped number items)
