use Rattle.file_items.proofs.Imports.{◌+◌, ◌∙◌, List, take, map, get_or, ap, sym, arith, slice_get, slice_get_within, slice_get-get_or, Spot, Piece, pieces_of}
use Rattle.file_items.proofs.Ordering.{piece_at, piece_same, count_more}
use Rattle.file_items.proofs.files.Basis.piece_blocks.Goals as goal

pub get-requires : goal.get-requires
get-requires g c =
    let all : List Piece = g.P.PieceList.pieces c.args.pieces.now in
    let spots : List Spot = c.under-spots.result.now in
    let spot : Spot = get_or spots c.loop-i.i (record { of = 0; number = 0 }) in
    let at = piece_at all (pieces_of all c.args.ino) spots c.loop-i.i spot (ap (map (λ (s : Spot). slice_get all s.number)) c.under-spots.ensures ∙ c.requires.owners c.args.ino) (slice_get-get_or spots c.loop-i.i (record { of = 0; number = 0 }) (omega arith)) in
    slice_get_within all spot.number at.piece at.there

pub loop-i-preserved : goal.loop-i-preserved
loop-i-preserved g c =
    let all : List Piece = g.P.PieceList.pieces c.args.pieces.now in
    let spots : List Spot = c.under-spots.result.now in
    let spot : Spot = get_or spots c.loop-i.i (record { of = 0; number = 0 }) in
    let at = piece_at all (pieces_of all c.args.ino) spots c.loop-i.i spot (ap (map (λ (s : Spot). slice_get all s.number)) c.under-spots.ensures ∙ c.requires.owners c.args.ino) (slice_get-get_or spots c.loop-i.i (record { of = 0; number = 0 }) (omega arith)) in
    let same = piece_same at.piece c.get.result.now (sym at.there ∙ c.get.ensures) in
    let count = ap (λ (p : Piece). p.count) same in
    count_more (take c.loop-i.i (pieces_of all c.args.ino)) (take (c.loop-i.i + 1) (pieces_of all c.args.ino)) at.piece c.loop-i.blocks c.saturating_add-blocks.result c.loop-i.invariant (omega (arith, c.saturating_add-blocks.ensures, count)) at.more
