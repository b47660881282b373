use Rattle.file_items.proofs.Imports.{◌≡◌, ◌+◌, ◌-◌, ◌∷◌, ◌++◌, [], ◌∙◌, ℕ, List, length, drop, map, get_or, ap, sym, arith, slice_get, slice_get_within, slice_get-get_or, extent_item, regular_extent, Spot, told_long, Piece, file_block, pieces_of, extents_at}
use Rattle.btr_item_list.specs.declared.extent.Extent.{Extent}
use Rattle.file_items.proofs.Ordering.{piece_at, piece_same, bounded}
use Rattle.file_items.proofs.files.FileTree.add_extent.Goals as goal

pub get-requires : goal.get-requires
get-requires g c =
    let all : List Piece = g.P.PieceList.pieces c.args.pieces.now in
    let spots : List Spot = c.under-spots.result.now in
    let ino : ℕ = c.args.self.now.file.ino in
    let i : ℕ = length spots - c.min-left.result in
    let spot : Spot = get_or spots i (record { of = 0; number = 0 }) in
    let at = piece_at all (pieces_of all ino) spots i spot (ap (map (λ (s : Spot). slice_get all s.number)) c.under-spots.ensures ∙ c.requires.owners ino) (slice_get-get_or spots i (record { of = 0; number = 0 }) (omega (arith, c.min-left.ensures, c.if-left-eq0.false))) in
    slice_get_within all spot.number at.piece at.there

pub returns-clause-next : goal.returns-clause-next
returns-clause-next g c = λ blocks small placed.
    let all : List Piece = g.P.PieceList.pieces c.args.pieces.now in
    let spots : List Spot = c.under-spots.result.now in
    let ino : ℕ = c.args.self.now.file.ino in
    let left : ℕ = c.args.self.now.file.left in
    let i : ℕ = length spots - c.min-left.result in
    let spot : Spot = get_or spots i (record { of = 0; number = 0 }) in
    let told = ap (map (λ (s : Spot). slice_get all s.number)) c.under-spots.ensures ∙ c.requires.owners ino in
    let at = piece_at all (pieces_of all ino) spots i spot told (slice_get-get_or spots i (record { of = 0; number = 0 }) (omega (arith, c.min-left.ensures, c.if-left-eq0.false))) in
    let p : Piece = c.get.result.now in
    let same : at.piece ≡ p = piece_same at.piece p (sym at.there ∙ c.get.ensures) in
    let bound = bounded blocks all spot.number p small placed c.get.ensures in
    let long = told_long (λ (s : Spot). slice_get all s.number) spots (pieces_of all ino) told in
    let extent : Extent = c.extent_of.result in
    let block : extent.block ≡ file_block p = ap (λ (e : Extent). e.block) c.extent_of.ensures in
    let place : extent.place ≡ p.place = ap (λ (e : Extent). e.place) c.extent_of.ensures in
    let count : extent.count ≡ p.count = ap (λ (e : Extent). e.count) c.extent_of.ensures in
    let added = c.in_ok-add_extent.ensures (omega (arith, block, bound.block)) (omega (arith, place, bound.place)) (omega (arith, count, bound.count)) in
    let before : length (pieces_of all ino) - left ≡ i = omega (arith, long, c.min-left.ensures) in
    let behind : i + 1 ≡ length (pieces_of all ino) - (c.min-left.result - 1) = omega (arith, long, c.min-left.ensures, c.if-left-eq0.false) in (
      extent_item ino (file_block p) (regular_extent p.place p.count),
      added ∙ ap (λ (e : Extent). c.args.items.now ++ extent_item ino e.block (regular_extent e.place e.count) ∷ []) c.extent_of.ensures,
      ap (extents_at ino file_block) (ap (λ (k : ℕ). drop k (pieces_of all ino)) before ∙ (at.rest ∙ (ap (λ (q : Piece). q ∷ drop (i + 1) (pieces_of all ino)) same ∙ ap (λ (k : ℕ). p ∷ drop k (pieces_of all ino)) behind))),
    )
