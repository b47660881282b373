use Rattle.file_items.proofs.Imports.{◌∙◌, List, ap, sym, subst, arith, slice_get, take_all, slice_get_within, Spot, told_long, Piece, TellsPieces, file_block, owner_inode, by_block}
use Rattle.file_items.proofs.Ordering.{tells_there, piece_at, piece_same, owner_more, unwrapped}
use Rattle.file_items.proofs.order.owner_spots.Goals as goal

pub get-requires : goal.get-requires
get-requires g c =
    let all = g.P.PieceList.pieces c.args.pieces.now in
    let at = piece_at all (by_block all) c.args.blocks.now c.loop-i.i c.get-number.result (tells_there all file_block c.args.blocks.now (by_block all) c.requires) c.get-number.ensures in
    slice_get_within all c.get-number.result.number at.piece at.there

pub loop-i-preserved : goal.loop-i-preserved
loop-i-preserved g c =
    let all = g.P.PieceList.pieces c.args.pieces.now in
    let at = piece_at all (by_block all) c.args.blocks.now c.loop-i.i c.get-number.result (tells_there all file_block c.args.blocks.now (by_block all) c.requires) c.get-number.ensures in
    let same = piece_same at.piece c.get.result.now (sym at.there ∙ c.get.ensures) in
    owner_more all (by_block all) c.loop-i.spots.items c.push.new.self.items c.loop-i.i c.get-number.result.number c.unwrap_or-of.result.0 at.piece c.loop-i.invariant at.there
    (unwrapped c.get.result.now.owner c.unwrap_or-of.result c.unwrap_or-of.ensures ∙ ap owner_inode (sym same)) at.more c.in_ok-push.ensures.items

pub returns : goal.returns
returns g c =
    let all = g.P.PieceList.pieces c.args.pieces.now in
    let long = told_long (λ (s : Spot). slice_get all s.number) c.args.blocks.now (by_block all) (tells_there all file_block c.args.blocks.now (by_block all) c.requires) in
    subst (λ (l : List Piece). TellsPieces all owner_inode c.loop-i.spots.items l) (take_all c.loop-i.i (by_block all) (omega (arith, long, c.loop-i-test.false, c.len-i-end.ensures))) c.loop-i.invariant
