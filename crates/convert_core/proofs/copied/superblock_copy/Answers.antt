use Rattle.convert_core.proofs.Imports.{arith}
use Rattle.convert_core.proofs.Copying.{copy_end, copy_here, copy_next}
use Rattle.convert_core.proofs.copied.superblock_copy.Goals as goal

pub loop-i-preserved : goal.loop-i-preserved
loop-i-preserved g c = record {
  rest = copy_next (g.P.PieceList.pieces c.args.pieces.now) c.loop-i.i c.get-piece.result.now c.get-piece.ensures _ c.begins_with_super.ensures c.if-begins_with_super.false c.loop-i.invariant.rest;
}

pub returns-then-begins_with_super : goal.returns-then-begins_with_super
returns-then-begins_with_super g c = copy_here (g.P.PieceList.pieces c.args.pieces.now) c.loop-i.i c.get-piece.result.now c.get-piece.ensures _ c.begins_with_super.ensures c.if-begins_with_super.true c.loop-i.invariant.rest

pub returns : goal.returns
returns g c = copy_end (g.P.PieceList.pieces c.args.pieces.now) c.loop-i.i (omega (arith, c.loop-i-test.false, c.loop-i.auto.i-end, c.len-i-end.ensures)) c.loop-i.invariant.rest
