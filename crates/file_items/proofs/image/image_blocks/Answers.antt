use Rattle.file_items.proofs.Imports.{◌+◌, ◌∙◌, Bool, List, filter, is_some, sum_by, take, ap, sym, arith, capped, Piece}
use Rattle.file_items.proofs.Ordering.{count_more, tested_more, tested_same}
use Rattle.file_items.proofs.image.image_blocks.Goals.{then-is_some, else-is_some}
use Rattle.file_items.proofs.image.image_blocks.Goals as goal

pub loop-i-preserved : goal.loop-i-preserved
loop-i-preserved g c =
    let all : List Piece = g.P.PieceList.pieces c.args.pieces.now in
    let p : Piece = c.get-piece.result.now in
    let test : Piece → Bool = λ (q : Piece). is_some q.from in
    elim c.if-is_some.branch [
      | then-is_some w ↦
          w.blocks-is ∙ count_more (filter test (take c.loop-i.i all)) (filter test (take (c.loop-i.i + 1) all)) p c.loop-i.blocks w.saturating_add-blocks.result c.loop-i.invariant (omega (arith, w.saturating_add-blocks.ensures))
          (tested_more all test c.loop-i.i p c.get-piece.ensures (sym c.is_some.ensures ∙ w.if-is_some.true))
      | else-is_some w ↦
          w.blocks-is ∙ (c.loop-i.invariant ∙ ap (λ (l : List Piece). capped (sum_by (λ q. q.count) l)) (sym (tested_same all test c.loop-i.i p c.get-piece.ensures (sym c.is_some.ensures ∙ w.if-is_some.false))))
    ]
