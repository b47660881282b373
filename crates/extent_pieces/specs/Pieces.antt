-- The pieces that the used blocks of a volume, and the tails of its files, are divided into.
use Rattle.std.specs.Prelude.{ℕ, ◌+◌, ◌-◌, ◌/◌, ◌==◌, nat_lt, Bool, true, false, not, ◌&&◌, List, ◌++◌, length, map, filter, Option, Some, None}
use Rattle.std.specs.List.{range_with_len}
use Rattle.reiser_bitmap.specs.vol_block.Volume.{is_reserved}
use Rattle.reiser_bitmap.specs.Bits.{has}
use Rattle.reiser_bitmap.specs.Next.{end_of_run}
use Rattle.unit_plan.specs.Choice.{is_data}
use Rattle.unit_plan.specs.declared.piece.Piece.{Piece}
use Rattle.extent_pieces.specs.declared.tail.Tail.{Tail}

-- the owner of each block: an inode number, and the number of a block of that file
abbrev pub Owners : Type 0
Owners = ℕ → Option (ℕ × ℕ)

-- the owner of the block that lies n blocks on, where the file goes on so
abbrev pub advanced : Option (ℕ × ℕ) → ℕ → Option (ℕ × ℕ)
advanced None n = None
advanced (Some owned) n = Some (owned.0, owned.1 + n)

abbrev pub is_owner : Option (ℕ × ℕ) → Option (ℕ × ℕ) → Bool
is_owner None None = true
is_owner None (Some b) = false
is_owner (Some a) None = false
is_owner (Some a) (Some b) = (a.0 == b.0) && (a.1 == b.1)

-- Block c, which is used and not reserved, may lie in one piece with block b before it: no multiple of 32768 is between
-- them, and both have no owner, or one file whose blocks go on from b to c.
abbrev pub is_joined : List Bool → Owners → ℕ → ℕ → Bool
is_joined used owner b c = is_data used c && ((b / 32768 == c / 32768) && is_owner (owner c) (advanced (owner b) (c - b)))

-- a kept piece begins at a block that is used and not reserved, and that the block before it is not joined with
abbrev pub begins_piece : List Bool → Owners → ℕ → Bool
begins_piece used owner b = is_data used b && not (nat_lt 0 b && (is_data used (b - 1) && is_joined used owner (b - 1) b))

-- the piece from block b on that is as long as may be; it stays where it is
abbrev pub kept_piece : List Bool → Owners → ℕ → Piece
kept_piece used owner b =
    record { from = Some b; count = end_of_run (is_joined used owner b) b (length used) - b; owner = owner b; place = b }

unfoldable pub kept_pieces : List Bool → Owners → List Piece
kept_pieces used owner = map (kept_piece used owner) (filter (begins_piece used owner) (range_with_len 0 (length used)))

abbrev pub is_copied : List Bool → ℕ → Bool
is_copied used b = has used b && is_reserved b (length used)

-- a used block that is reserved; it has no place yet
abbrev pub copied_piece : Owners → ℕ → Piece
copied_piece owner b = record { from = Some b; count = 1; owner = owner b; place = 0 }

unfoldable pub copied_pieces : List Bool → Owners → List Piece
copied_pieces used owner = map (copied_piece owner) (filter (is_copied used) (range_with_len 0 (length used)))

-- a block that is made of direct bytes; it has no place yet
abbrev pub tail_piece : Tail → Piece
tail_piece tail = record { from = None; count = 1; owner = Some (tail.inode, tail.at); place = 0 }

-- kept pieces, copies and tails
abbrev pub pieces : List Bool → Owners → List Tail → List Piece
pieces used owner tails = kept_pieces used owner ++ (copied_pieces used owner ++ map tail_piece tails)
