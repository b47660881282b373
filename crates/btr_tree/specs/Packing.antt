-- How the entries of a Btrfs tree are divided among its nodes. The format leaves it open how full a node is; here each
-- node is as full as the next entry lets it be.
use Rattle.std.specs.Prelude.{ℕ, zero, suc, ◌+◌, ◌-◌, ◌/◌, nat_le, List, [], ◌∷◌, ◌++◌, if◌then◌else◌}
use Rattle.std.specs.List.{sum_by}
use Rattle.std.specs.Int.{div_ceil}
use Rattle.btr_node.specs.btrfs_format.declared.size.TheConstants.{HEADER_SIZE, ITEM_SIZE, KEY_PTR_SIZE}

-- The bytes that a node has for items or children: all behind its head of 101 bytes.
abbrev pub capacity : ℕ → ℕ
capacity nodesize = nodesize - HEADER_SIZE

-- how many children of 33 bytes an inner node has room for
abbrev pub fan_out : ℕ → ℕ
fan_out nodesize = capacity nodesize / KEY_PTR_SIZE

-- the bytes that an item with this length takes in a leaf: those of its head, and its own
abbrev pub weight : ℕ → ℕ
weight n = ITEM_SIZE + n

-- Entries in groups of which each fits in a room, where one group is begun: an entry goes into the group that is begun
-- while it has room, and else begins the next one.
unfoldable pub packed_from : {E : Type 0} → (E → ℕ) → ℕ → List E → List E → List (List E)
packed_from size room begun [] = begun ∷ []
packed_from size room begun (e ∷ es) =
    if nat_le (sum_by size begun + size e) room then packed_from size room (begun ++ e ∷ []) es else begun ∷ packed_from size room (e ∷ []) es

-- the same from nothing on; without entries there is one empty group
abbrev pub packed : {E : Type 0} → (E → ℕ) → ℕ → List E → List (List E)
packed size room es = packed_from size room [] es

-- How many nodes the levels have, from one of n nodes on upwards: above more than one node stands a level with a node
-- for each `fan` of them or part of these. At most `levels` of them are listed.
unfoldable pub level_sizes : ℕ → ℕ → ℕ → List ℕ
level_sizes zero fan n = []
level_sizes (suc levels) fan n = n ∷ (if nat_le n 1 then [] else level_sizes levels fan (div_ceil n fan))

-- the leaves of a tree of items with these lengths
abbrev pub packed_leaves : ℕ → List ℕ → List (List ℕ)
packed_leaves nodesize lengths = packed weight (capacity nodesize) lengths

-- How many nodes each level of the tree has, leaves first. A level's number is a byte.
abbrev pub tree_levels : ℕ → ℕ → List ℕ
tree_levels nodesize packed_leaves = level_sizes 256 (fan_out nodesize) packed_leaves
