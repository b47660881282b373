-- Where the pieces lie on the converted volume.
use Rattle.std.specs.Prelude.{◌≡◌, ◌≤◌, ◌<◌, ℕ, ◌+◌, ◌-◌, ◌*◌, ◌^◌, Bool, List, [], ◌∷◌, ◌++◌, length, take, drop, All}
use Rattle.std.specs.List.{flat_map, range_with_len}
use Rattle.std.specs.List.Sorted.{IsNonDecreasingBy, IsPermutation}
use Rattle.unit_plan.specs.declared.piece.Piece.{Piece}
use Rattle.extent_pieces.specs.declared.pieces.Pieces.{Pieces}

-- the blocks of the units, in their order
abbrev pub blocks_of_units : List ℕ → List ℕ
blocks_of_units units = flat_map (λ u. range_with_len (256 * u) 256) units

abbrev pub at_place : Piece → ℕ → Piece
at_place p b = record { from = p.from; count = p.count; owner = p.owner; place = b }

-- each piece with the place of the same number
abbrev pub at_places : List Piece → List ℕ → List Piece
at_places [] places = []
at_places (p ∷ ps) [] = []
at_places (p ∷ ps) (b ∷ bs) = at_place p b ∷ at_places ps bs

-- one piece ends where the other begins, or before
abbrev pub LiesBefore : Piece → Piece → Type 0
LiesBefore p q = p.place + p.count ≤ q.place

-- the pieces that may get places from these units: there are no more of them than blocks, each has one block
pub record FitsPlan (found : Pieces) (units : List ℕ) : Type 0 where
  pub kept : found.kept ≤ length found.items.items
  pub room : length found.items.items - found.kept ≤ 256 * length units
  pub small : All (λ u. u < 2 ^ 50) units

-- What was counted is of a volume with these used blocks, and the pieces behind the kept ones are no more than the copies and tails.
pub record IsCounted (used : List Bool) (found : Pieces) : Type 0 where
  pub blocks : found.counts.blocks ≡ length used
  pub kept : found.kept ≤ length found.items.items
  pub others : length found.items.items - found.kept ≤ found.counts.copies + found.counts.tails

-- Kept pieces lie where they lay. The others lie, in their order, in the blocks of the units. The list ascends by place.
pub record WerePlaced (kept : ℕ) (units : List ℕ) (old new : List Piece) : Type 0 where
  pub same : IsPermutation (take kept old ++ at_places (drop kept old) (blocks_of_units units)) new
  pub ascending : IsNonDecreasingBy (λ p. p.place) new
