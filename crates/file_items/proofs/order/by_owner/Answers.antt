use Rattle.file_items.proofs.Imports.{filter, is_some, List, IfOk-weaker, Piece, file_block}
use Rattle.file_items.proofs.Ordering.{tells_sorted, owners_are}
use Rattle.file_items.proofs.order.by_owner.Goals as goal

pub owner_spots-requires : goal.owner_spots-requires
owner_spots-requires g c =
    let all : List Piece = g.P.PieceList.pieces c.args.pieces.now in
    tells_sorted all file_block c.in_ok-block_spots.field-0.items c.in_ok-blocks.blocks (filter (λ p. is_some p.owner) all) c.in_ok-block_spots.ensures c.in_ok-blocks.ensures

pub returns : goal.returns
returns g c = IfOk-weaker c.sorted-2.result _ _ (λ sorted is. owners_are (g.P.PieceList.pieces c.args.pieces.now) c.in_ok-owner_spots.field-0.items sorted c.in_ok-owner_spots.ensures is) c.sorted-2.ensures
