-- The file extents of a file tree, for the pieces of a volume.
use Rattle.std.specs.Prelude.{ℕ, ◌*◌, ◌==◌, Bool, false, is_some, List, map, filter, sum_by}
use Rattle.std.specs.Option.{option_map_or}
use Rattle.unit_plan.specs.btr_node.Leaf.{Item}
use Rattle.btr_item_list.specs.Extents.{extent_item, regular_extent}
use Rattle.btr_item_list.specs.Groups.{ascending}
use Rattle.unit_plan.specs.declared.piece.Piece.{Piece}

-- the inode of an owned piece, and its block of the file
abbrev pub owner_inode : Piece → ℕ
owner_inode p = option_map_or (λ o. o.0) p.owner 0

abbrev pub file_block : Piece → ℕ
file_block p = option_map_or (λ o. o.1) p.owner 0

-- the owned pieces, by their blocks of the file
abbrev pub by_block : List Piece → List Piece
by_block pieces = ascending file_block (filter (λ p. is_some p.owner) pieces)

-- the pieces of an inode, by their blocks of the file
abbrev pub is_owned_by : ℕ → Piece → Bool
is_owned_by ino p = option_map_or (λ o. o.0 == ino) p.owner false

abbrev pub pieces_of : List Piece → ℕ → List Piece
pieces_of pieces ino = ascending file_block (filter (is_owned_by ino) pieces)

-- the pieces that hold blocks of the volume, by these blocks
abbrev pub source_block : Piece → ℕ
source_block p = option_map_or (λ b. b) p.from 0

abbrev pub pieces_of_volume : List Piece → List Piece
pieces_of_volume pieces = ascending source_block (filter (λ p. is_some p.from) pieces)

abbrev pub piece_bytes : List Piece → ℕ
piece_bytes pieces = sum_by (λ p. 4096 * p.count) pieces

-- an extent for each piece, from the block on that a function gives
abbrev pub extents_at : ℕ → (Piece → ℕ) → List Piece → List Item
extents_at ino at pieces = map (λ p. extent_item ino (at p) (regular_extent p.place p.count)) pieces
