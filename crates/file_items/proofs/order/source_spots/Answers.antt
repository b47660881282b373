use Rattle.file_items.proofs.Imports.{◌+◌, Bool, List, filter, is_some, take, ap, sym, subst, arith, take_all, Spot, Piece, source_block, TellsPieces}
use Rattle.file_items.proofs.Ordering.{tells_more, tells_same, source_is}
use Rattle.file_items.proofs.order.source_spots.Goals.{in-Some+in_ok-push, in_default}
use Rattle.file_items.proofs.order.source_spots.Goals as goal

pub loop-number-preserved : goal.loop-number-preserved
loop-number-preserved g c =
    let all : List Piece = g.P.PieceList.pieces c.args.pieces.now in
    let test : Piece → Bool = λ (p : Piece). is_some p.from in
    elim c.match-get.branch [
      | in-Some+in_ok-push w ↦
          subst (λ (l : List Spot). TellsPieces all source_block l (filter test (take (c.loop-number.number + 1) all))) (sym (ap (λ v. v.items) w.spots-is))
          (tells_more all source_block test c.loop-number.spots.items w.push.new.self.items c.loop-number.number w.in-Some.block c.get.result.now c.loop-number.invariant c.get.ensures (ap is_some w.in-Some.is) (source_is c.get.result.now w.in-Some.block w.in-Some.is) w.in_ok-push.ensures.items)
      | in_default w ↦
          subst (λ (l : List Spot). TellsPieces all source_block l (filter test (take (c.loop-number.number + 1) all))) (sym (ap (λ v. v.items) w.spots-is))
          (tells_same all source_block test c.loop-number.spots.items c.loop-number.number c.get.result.now c.loop-number.invariant c.get.ensures (ap is_some w.in_default.is))
    ]

pub returns : goal.returns
returns g c =
    let all : List Piece = g.P.PieceList.pieces c.args.pieces.now in
    subst (λ (l : List Piece). TellsPieces all source_block c.loop-number.spots.items (filter (λ p. is_some p.from) l)) (take_all c.loop-number.number all (omega arith)) c.loop-number.invariant
