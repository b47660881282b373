-- Inner nodes: on each level every node has 170 children, from the left, and the last one the rest. Where that would be one
-- child, the node before gives it one of its own, since an inner node has a key, and so two children.
use Rattle.std.specs.Prelude.{ℕ, zero, suc, ◌+◌, ◌-◌, ◌*◌, nat_le, nat_lt, min, false, List, [], ◌∷◌, ◌++◌, length, map, drop, replicate, slice_index_or, if◌then◌else◌}
use Rattle.std.specs.Int.{div_ceil}
use Rattle.std.specs.List.{range_with_len, flat_map}
use Rattle.byteorder.specs.Endian.{little_bytes}
use Rattle.reiser_items.specs.reiser_node.declared.head.ItemHead.{ItemHead}
use Rattle.reiser_items.specs.reiser_node.declared.head.ItemKind.TheVariants.{Stat}
use Rattle.reiser_make.specs.Leaf.{leaves, bytes_taken, key_bytes, node_head, node_room}
use Rattle.reiser_make.specs.Places.{place, least_size}
use Rattle.reiser_make.specs.Shape.{Shape, stored_in}
use Rattle.reiser_make.specs.declared.inner.DiskChild.{DiskChild}
use Rattle.reiser_make.specs.declared.sample_item.SampleItem.{SampleItem}

-- nodes above n nodes
abbrev pub nodes_above : ℕ → ℕ
nodes_above n = div_ceil n 170

-- the first child of node m above n nodes, where n is at least 2
abbrev pub first_child : ℕ → ℕ → ℕ
first_child n m = min (170 * m) (n - 2)

-- the first child of the node behind it, or n
abbrev pub end_child : ℕ → ℕ → ℕ
end_child n m = if nat_lt (m + 1) (nodes_above n) then first_child n (m + 1) else n

abbrev pub child_count : ℕ → ℕ → ℕ
child_count n m = end_child n m - first_child n m

-- nodes of a level above so many leaves; the leaves are level 1
abbrev pub level_nodes : ℕ → ℕ → ℕ
level_nodes leaves zero = leaves
level_nodes leaves (suc zero) = leaves
level_nodes leaves (suc (suc level)) = nodes_above (level_nodes leaves (suc level))

-- nodes of the levels below a level
abbrev pub nodes_below : ℕ → ℕ → ℕ
nodes_below leaves zero = 0
nodes_below leaves (suc zero) = 0
nodes_below leaves (suc (suc level)) = nodes_below leaves (suc level) + level_nodes leaves (suc level)

-- the first level of one node, from a level of n nodes on and over at most so many levels
abbrev pub root_from : ℕ → ℕ → ℕ → ℕ
root_from zero level n = level
root_from (suc levels) level n = if nat_le n 1 then level else root_from levels (level + 1) (nodes_above n)

-- the level of the root, of six levels at most
unfoldable pub root_level : ℕ → ℕ
root_level leaves = root_from 5 1 leaves

-- Nodes come behind the data blocks, level by level.
abbrev pub node_place : Shape → ℕ → ℕ → ℕ
node_place s level m = place (stored_in s.names + nodes_below (length (leaves s)) level + m)

-- how many blocks of data and nodes there are
abbrev pub total : Shape → ℕ
total s = stored_in s.names + nodes_below (length (leaves s)) (root_level (length (leaves s)) + 1)

-- the fewest blocks of a volume that holds the sample: one more than the last block that is used
abbrev pub needed : Shape → ℕ
needed s = least_size (total s)

abbrev pub no_head : ItemHead
no_head = record { dir = 0; object = 0; offset = 0; kind = Stat; old = false; count = 0; length = 0 }

abbrev pub first_head : List SampleItem → ItemHead
first_head [] = no_head
first_head (item ∷ items) = item.head

-- the first leaf below node m of a level above so many leaves
abbrev pub first_leaf : ℕ → ℕ → ℕ → ℕ
first_leaf leaves zero m = m
first_leaf leaves (suc zero) m = m
first_leaf leaves (suc (suc level)) m = first_leaf leaves (suc level) (first_child (level_nodes leaves (suc level)) m)

abbrev pub leaf_at : Shape → ℕ → List SampleItem
leaf_at s m = slice_index_or (leaves s) m []

-- the bytes that node m of a level uses behind its head
abbrev pub used_by : Shape → ℕ → ℕ → ℕ
used_by s zero m = 0
used_by s (suc zero) m = bytes_taken (leaf_at s m)
used_by s (suc (suc level)) m = 24 * child_count (level_nodes (length (leaves s)) (suc level)) m - 16

-- node m of a level as its parent names it
unfoldable pub child : Shape → ℕ → ℕ → DiskChild
child s level m =
    record {
      head = first_head (leaf_at s (first_leaf (length (leaves s)) level m));
      block = node_place s level m;
      size = used_by s level m;
    }

-- so many nodes of a level from node `first` on, as their parent names them
abbrev pub children_from : Shape → ℕ → ℕ → ℕ → List DiskChild
children_from s level first count = map (child s level) (range_with_len first count)

-- the children of node m above a level
abbrev pub children : Shape → ℕ → ℕ → List DiskChild
children s below m =
    let nodes = level_nodes (length (leaves s)) below in
    children_from s below (first_child nodes m) (child_count nodes m)

abbrev pub child_key : DiskChild → List ℕ
child_key c = key_bytes c.head

abbrev pub disk_child_bytes : DiskChild → List ℕ
disk_child_bytes c = little_bytes 4 c.block ++ little_bytes 2 c.size ++ little_bytes 2 0

-- the block of an inner node: the keys of all children but the first, and pointers
unfoldable pub inner_bytes : ℕ → List DiskChild → List ℕ
inner_bytes level children =
    let room = node_room - (24 * length children - 16) in
    node_head level (length children - 1) room ++ (flat_map child_key (drop 1 children) ++ (flat_map disk_child_bytes children ++ replicate room 0))
