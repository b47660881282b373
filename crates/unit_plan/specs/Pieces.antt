-- Pieces of data that have their places.
use Rattle.std.specs.Prelude.{ℕ, ◌+◌, ◌^◌, ◌≤◌, List, MatchOption, All, AllPairs}
use Rattle.unit_plan.specs.declared.piece.Piece.{Piece}

-- They ascend by place and do not overlap; each lies on the volume of so many blocks, and so do the blocks that it holds;
-- and the file block behind the last one of an owner is at most 2^32.
pub record ArePlaced (blocks : ℕ) (pieces : List Piece) : Type 0 where
  pub some : All (λ p. 1 ≤ p.count) pieces
  pub ascending : AllPairs (λ p q. p.place + p.count ≤ q.place) pieces
  pub inside : All (λ p. p.place + p.count ≤ blocks) pieces
  pub sources : All (λ p. MatchOption p.from (Unit {0}) (λ b. b + p.count ≤ blocks)) pieces
  pub owners : All (λ p. MatchOption p.owner (Unit {0}) (λ o. o.1 + p.count ≤ 2 ^ 32)) pieces
