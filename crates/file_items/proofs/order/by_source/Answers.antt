use Rattle.file_items.proofs.Imports.{filter, is_some, List, IfOk-weaker, Piece, source_block, pieces_of_volume}
use Rattle.file_items.proofs.Ordering.{tells_there, tells_sorted}
use Rattle.file_items.proofs.order.by_source.Goals as goal

pub returns : goal.returns
returns g c =
    let all : List Piece = g.P.PieceList.pieces c.args.pieces.now in
    IfOk-weaker c.sorted.result _ _ (λ sorted is. tells_there all source_block sorted (pieces_of_volume all) (tells_sorted all source_block c.in_ok-source_spots.field-0.items sorted (filter (λ p. is_some p.from) all) c.in_ok-source_spots.ensures is)) c.sorted.ensures
