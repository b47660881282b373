use Rattle.convert_core.proofs.Imports.{get_or_from_slice_get, slice_get_within}
use Rattle.convert_core.proofs.Wholeness.{placed_more}
use Rattle.convert_core.proofs.whole.are_placed.Goals as goal

pub loop-i-preserved : goal.loop-i-preserved
loop-i-preserved g c =
    let is = c.is_small.ensures.placed c.if-not-is_small.false in
    record {
      placed =
          placed_more (g.P.PieceList.pieces c.args.pieces.now) c.args.blocks c.loop-i.end c.loop-i.i c.get-piece.result.now
          (λ d. get_or_from_slice_get (g.P.PieceList.pieces c.args.pieces.now) c.loop-i.i c.get-piece.result.now d c.get-piece.ensures)
          c.loop-i.invariant.placed c.if-piece-end.false is.0 is.1 (slice_get_within (g.P.PieceList.pieces c.args.pieces.now) c.loop-i.i c.get-piece.result.now c.get-piece.ensures);
    }
