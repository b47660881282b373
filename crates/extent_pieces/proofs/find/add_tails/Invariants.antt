use Rattle.extent_pieces.proofs.Imports.{◌≡◌, ◌++◌, map, take, tail_piece}
use Rattle.extent_pieces.proofs.find.add_tails.Given as goal

abbrev pub invariant-loop-tail : goal.invariant-loop-tail
invariant-loop-tail l = l.items.items ≡ l.fn.items.items ++ map tail_piece (take l.tail-index l.tails)
