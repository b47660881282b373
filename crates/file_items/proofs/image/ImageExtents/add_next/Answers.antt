use Rattle.file_items.proofs.Imports.{◌≡◌, ◌∙◌, ◌∷◌, ◌++◌, [], ℕ, ap, sym, List, drop, arith, ◌+◌, ◌<◌, ◌^◌, slice_get_within, extent_item, regular_extent, Piece, source_block, pieces_of_volume, extents_at}
use Rattle.file_items.proofs.Ordering.{piece_at, bounded, piece_same}
use Rattle.file_items.proofs.image.ImageExtents.add_next.Goals as goal

pub get-requires-2 : goal.get-requires-2
get-requires-2 g c =
    let all : List Piece = g.P.PieceList.pieces c.args.pieces.now in
    let at = piece_at all (pieces_of_volume all) c.args.self.now.order c.args.self.now.given c.get.result c.requires.order c.get.ensures in
    slice_get_within all c.get.result.number at.piece at.there

pub returns-clause-next : goal.returns-clause-next
returns-clause-next g c = λ blocks small placed.
    let all : List Piece = g.P.PieceList.pieces c.args.pieces.now in
    let p : Piece = c.get-2.result.now in
    let at = piece_at all (pieces_of_volume all) c.args.self.now.order c.args.self.now.given c.get.result c.requires.order c.get.ensures in
    let same : at.piece ≡ p = piece_same at.piece p (sym at.there ∙ c.get-2.ensures) in
    let bound = bounded blocks all c.get.result.number p small placed c.get-2.ensures in
    let source : c.source_block.result < 2 ^ 52 = omega (arith, c.source_block.ensures, bound.source) in (
      extent_item 257 (source_block p) (regular_extent p.place p.count),
      [],
      c.in_ok-add_extent.ensures source bound.place bound.count ∙ ap (λ (b : ℕ). c.args.items.now ++ extent_item 257 b (regular_extent p.place p.count) ∷ []) c.source_block.ensures,
      ap (extents_at 257 source_block) (at.rest ∙ ap (λ (q : Piece). q ∷ drop (c.args.self.now.given + 1) (pieces_of_volume all)) same),
    )
