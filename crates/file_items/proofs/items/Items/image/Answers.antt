use Rattle.file_items.proofs.Imports.{◌≡◌, ◌++◌, ◌∙◌, ℕ, List, filter, is_some, drop, ap, arith, ascending_sum, Super, Piece, source_block, pieces_of_volume, piece_bytes, extents_at, image_items, ahead, Items}
use Rattle.file_items.proofs.Extending.{image_is}
use Rattle.file_items.proofs.Ordering.{sum_within, bytes_are}
use Rattle.file_items.proofs.items.Items.image.Goals as goal

pub returns-clause-all : goal.returns-clause-all
returns-clause-all g c = λ small placed image.
    let all : List Piece = g.P.PieceList.pieces c.args.pieces.now in
    let blocks : ℕ = c.args.volume.now.sup.blocks in
    let within = sum_within blocks all (λ p. is_some p.from) placed in
    let count = c.image_blocks.ensures (omega (arith, within, small)) in
    let same = ascending_sum source_block (λ (p : Piece). p.count) (filter (λ p. is_some p.from) all) in
    let bytes = bytes_are (pieces_of_volume all) in
    let nbytes : c.saturating_mul-nbytes.result ≡ piece_bytes (pieces_of_volume all) = omega (arith, c.saturating_mul-nbytes.ensures, count, same, bytes, within, small) in
    let sup : c.sup.result.now.blocks ≡ blocks = ap (λ (s : Super). s.blocks) c.sup.ensures in
    let head = c.in_ok-head.ensures (omega (arith, sup, small)) in
    ap (λ (i : Items). ahead i c.args.volume.now all image) c.with.ensures
    ∙ (ap (λ (k : ℕ). c.in_ok-head.head ++ extents_at 257 source_block (drop k (pieces_of_volume all))) c.in_ok-extents.ensures.none
    ∙ (image_is c.sup.result.now.blocks c.saturating_mul-nbytes.result c.args.now all c.args.options.now.datasum c.in_ok-head.head head nbytes
    ∙ ap (λ (b : ℕ). image_items b all c.args.options.now.datasum c.args.now) sup))
