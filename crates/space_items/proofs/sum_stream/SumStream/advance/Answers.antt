use Rattle.space_items.proofs.Imports.{◌≡◌, List, Result, Ok, Err, ◌+◌, OnOk, Piece, IsPieceTaken, sum_standing, blocks_taken, sums_item, SumStream}
use Rattle.space_items.proofs.Summing.{taken_next}
use Rattle.space_items.proofs.sum_stream.SumStream.advance.Goals as goal

on_ok : {T E : Type 0} (r : Result T E) (x : T) (P : Type 0) → r ≡ Ok x → OnOk r P → P
on_ok (Ok y) x P is says = says
on_ok (Err e) x P is says = absurd cc

pub returns-clause-next : goal.returns-clause-next
returns-clause-next g c = λ tells image is.
    let all : List Piece = g.P.PieceList.pieces c.args.pieces.now in
    let old : SumStream = c.args.self.now in
    let new : SumStream = c.take-answer.new.self in
    let p : Piece = c.get-piece.result.now in
    let got = on_ok c.take-answer.result c.in_ok-answer.field-0 (IsPieceTaken old new p) c.in_ok-answer.was c.take-answer.ensures.taken in
    let stands = on_ok c.take-answer.result c.in_ok-answer.field-0 (sum_standing new ≡ sums_item old.sums image (p.place + old.done) (blocks_taken old p)) c.in_ok-answer.was (c.take-answer.ensures.stands tells image is) in
    taken_next old new image all p c.get-piece.ensures (c.requires.fits.done_within p c.get-piece.ensures) got stands
