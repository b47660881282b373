-- The checksum tree: a checksum for each block of the pieces.
use Rattle.std.specs.Prelude.{ℕ, ◌+◌, ◌-◌, ◌*◌, ◌^◌, min, List, map, take}
use Rattle.std.specs.Int.{div_ceil}
use Rattle.std.specs.List.{flat_map, range_with_len}
use Rattle.btr_space_items.specs.btrfs_format.declared.key.TheConstants.{EXTENT_CSUM}
use Rattle.btr_space_items.specs.btrfs_format.declared.object.TheConstants.{EXTENT_CSUM_OBJECTID}
use Rattle.btr_tree.specs.outside.History.{Image, block_at}
use Rattle.btr_tree.specs.btr_keys.Key.{make_key}
use Rattle.btr_tree.specs.btr_node.Leaf.{Item}
use Rattle.btr_tree.specs.csum_kinds.Kind.{kind_sum, kind_width}
use Rattle.btr_tree.specs.csum_kinds.declared.kind.SumKind.{SumKind}
use Rattle.unit_plan.specs.Sums.{sums_in_item}
use Rattle.unit_plan.specs.declared.piece.Piece.{Piece}

-- the checksum of a block
abbrev pub block_sum : SumKind → Image → ℕ → List ℕ
block_sum sums image b = take (kind_width sums) (kind_sum sums (block_at image b))

-- the checksums of so many blocks from one on
abbrev pub sums_item : SumKind → Image → ℕ → ℕ → Item
sums_item sums image first count = (make_key EXTENT_CSUM_OBJECTID EXTENT_CSUM (4096 * first), flat_map (block_sum sums image) (range_with_len first count))

-- The items of blocks from one on: each but the last one has as many as an item may have.
abbrev pub run_items : SumKind → Image → ℕ → ℕ → List Item
run_items sums image first count =
    map (λ i. sums_item sums image (first + sums_in_item sums * i) (min (sums_in_item sums) (count - sums_in_item sums * i)))
    (range_with_len 0 (div_ceil count (sums_in_item sums)))

-- the whole of it
abbrev pub sum_items : SumKind → Image → List Piece → List Item
sum_items sums image pieces = flat_map (λ p. run_items sums image p.place p.count) pieces
