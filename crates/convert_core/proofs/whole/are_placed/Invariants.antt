use Rattle.convert_core.proofs.Wholeness.{ArePlacedTo}
use Rattle.convert_core.proofs.whole.are_placed.Given as goal

abbrev pub invariant-loop-i : goal.invariant-loop-i
invariant-loop-i g l = record {
  placed : ArePlacedTo (g.P.PieceList.pieces l.pieces) l.blocks l.end l.i;
}
