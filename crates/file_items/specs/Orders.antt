-- Pieces by the numbers that they stand under.
use Rattle.std.specs.Prelude.{◌≡◌, ℕ, List, map, filter, slice_get, Option, Some}
use Rattle.btr_item_list.specs.Spots.{is_under}
use Rattle.btr_item_list.specs.declared.spot.Spot.{Spot}
use Rattle.unit_plan.specs.declared.piece.Piece.{Piece}
use Rattle.file_items.specs.Extents.{pieces_of, pieces_of_volume}

-- the spots tell some of the pieces, each under its number
abbrev pub TellsPieces : List Piece → (Piece → ℕ) → List Spot → List Piece → Type 0
TellsPieces pieces number spots told = map {B = ℕ × Option Piece} (λ spot. (spot.of, slice_get pieces spot.number)) spots ≡ map {B = ℕ × Option Piece} (λ p. (number p, Some p)) told

-- under each inode its pieces, by their blocks of the file
abbrev pub AreOwners : List Spot → List Piece → Type 0
AreOwners spots pieces = (ino : ℕ) → map (λ spot. slice_get pieces spot.number) (filter (is_under ino) spots) ≡ map (λ p. Some p) (pieces_of pieces ino)

-- the pieces that hold blocks of the volume, by these blocks
abbrev pub AreSources : List Spot → List Piece → Type 0
AreSources spots pieces = map (λ spot. slice_get pieces spot.number) spots ≡ map (λ p. Some p) (pieces_of_volume pieces)
