use Rattle.extent_pieces.proofs.Imports.{◌≡◌, blocks_of_units}
use Rattle.extent_pieces.proofs.Placing.{Places}
use Rattle.extent_pieces.proofs.pieces.Pieces.place.Given as goal

abbrev pub invariant-loop-i : goal.invariant-loop-i
invariant-loop-i l = record {
  placed : Places l.fn.self.kept (blocks_of_units l.plan.data_) l.fn.self.items.items l.self.items.items l.i;
  kept : l.self.kept ≡ l.fn.self.kept;
  counts : l.self.counts ≡ l.fn.self.counts;
}
