-- What was noted of the items of a tree.
use Rattle.std.specs.Prelude.{◌≡◌, ℕ, List, map, Option, Some, None, Contains}
use Rattle.btr_check_rules.specs.btr_reader.btr_space_items.btrfs_format.declared.key.TheConstants.{BLOCK_GROUP_ITEM, DEV_EXTENT}
use Rattle.btr_check_rules.specs.btr_reader.btr_node.Leaf.{Item}
use Rattle.btr_check_rules.specs.btr_reader.btr_reader_walk.Events.{TreeItem}
use Rattle.btr_check_rules.specs.btr_reader.btr_reader_walk.Tree.{bare_item}
use Rattle.btr_check_rules.specs.Recount.{object_of, of_kind}
use Rattle.btr_check_fields.specs.Read.{AreReadOf, extent_at, group_at}
use Rattle.btr_check_fields.specs.declared.device_tree.ExtentsFound.{ExtentsFound}
use Rattle.btr_check_fields.specs.declared.group_items.GroupsFound.{GroupsFound}

-- all items were read; or one of them is off its grammar, at this place
abbrev pub HoldsRead : {A : Type 0} → (Item → ℕ) → (Item → Option A) → List Item → List A → Option ℕ → Type 0
HoldsRead at read items found None = AreReadOf read items found
HoldsRead at read items found (Some a) = (i : Item) × Contains items i × (at i ≡ a) × (read i ≡ None)

-- the place that an item's key tells
abbrev pub offset_of : Item → ℕ
offset_of i = i.0.offset

-- the device extents of a tree with these items
abbrev pub extents_in : List TreeItem → List Item
extents_in items = of_kind DEV_EXTENT (map bare_item items)

abbrev pub HoldsExtents : ExtentsFound → List TreeItem → Type 0
HoldsExtents notes items = HoldsRead offset_of extent_at (extents_in items) notes.extents.items notes.wrong

-- the block groups of a tree with these items
abbrev pub groups_in : List TreeItem → List Item
groups_in items = of_kind BLOCK_GROUP_ITEM (map bare_item items)

abbrev pub HoldsGroups : GroupsFound → List TreeItem → Type 0
HoldsGroups notes items = HoldsRead object_of group_at (groups_in items) notes.groups.items notes.wrong
