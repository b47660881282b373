use Rattle.convert_core.proofs.Imports.{◌≡◌, drop, copy_in}
use Rattle.convert_core.proofs.copied.superblock_copy.Given as goal

abbrev pub invariant-loop-i : goal.invariant-loop-i
invariant-loop-i g l = record {
  rest : copy_in (drop l.i (g.P.PieceList.pieces l.pieces)) ≡ copy_in (g.P.PieceList.pieces l.pieces);
}
