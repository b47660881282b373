use Rattle.file_items.proofs.Imports.{◌≡◌, ◌*◌, ◌∙◌, ℕ, Option, List, ap, sym, arith, sum_by, option_map_or, Piece, pieces_of, piece_bytes}
use Rattle.file_items.proofs.Ordering.{owned_within, bytes_are}
use Rattle.file_items.proofs.files.Basis.bytes_of.Goals as goal

pub returns-in-None : goal.returns-in-None
returns-in-None g c = λ blocks small placed.
    let all : List Piece = g.P.PieceList.pieces c.args.pieces.now in
    let within = owned_within blocks all c.args.ino placed in
    let count = c.piece_blocks.ensures (omega (arith, within, small)) in
    let bytes = bytes_are (pieces_of all c.args.ino) in
    let is : c.saturating_mul.result ≡ 4096 * sum_by (λ p. p.count) (pieces_of all c.args.ino) = omega (arith, c.saturating_mul.ensures, count, within, small) in
    is ∙ (sym bytes ∙ sym (ap (λ (o : Option ℕ). option_map_or (λ n. n) o (piece_bytes (pieces_of all c.args.ino))) c.in-None.is))
