use Rattle.extent_pieces.proofs.Imports.{◌≡◌, ◌+◌, ◌∙◌, ◌++◌, ◌∷◌, [], true, not, length, List, arith, ap, sym, subst, is_data, Piece, IsEnd, is_joined}
use Rattle.extent_pieces.proofs.Dividing.{Divides, divides_start, divides_more, divides_all, stops}
use Rattle.extent_pieces.proofs.Ending.{end_of}
use Rattle.extent_pieces.proofs.Maximal.{piece_end}
use Rattle.extent_pieces.proofs.divide.add_kept.Goals as goal

pub loop-b-init : goal.loop-b-init
loop-b-init c =
    let used = c.args.map.now in
    let facts = end_of (λ b. not (is_data used b)) 0 (length used) c.next_data-b.result c.next_data-b.ensures (omega arith) in
    record {
      inside = facts.high;
      data_ = λ h. stops (is_data used c.next_data-b.result) (facts.stop h);
      divided = λ owner tells. divides_start used owner c.args.items.now.items (length used) c.next_data-b.result facts;
    }

pub loop-b-smaller : goal.loop-b-smaller
loop-b-smaller c =
    let used = c.args.map.now in
    let facts = end_of (λ b. not (is_data used b)) (c.loop-b.b + c.kept_piece-piece.result.count) (length used) c.next_data-b-in-loop-b.result c.next_data-b-in-loop-b.ensures c.kept_piece-piece.ensures.inside in
    omega (arith, facts.low, facts.high, c.kept_piece-piece.ensures.some, c.kept_piece-piece.ensures.inside)

pub loop-b-preserved : goal.loop-b-preserved
loop-b-preserved c =
    let used = c.args.map.now in
    let b = c.loop-b.b in
    let piece = c.kept_piece-piece.result in
    let facts = end_of (λ b. not (is_data used b)) (b + piece.count) (length used) c.next_data-b-in-loop-b.result c.next_data-b-in-loop-b.ensures c.kept_piece-piece.ensures.inside in
    let data_ : is_data used b ≡ true = c.loop-b.invariant.data_ (omega (arith, c.loop-b-test.true, c.len.ensures)) in
    record {
      inside = facts.high;
      data_ = λ h. stops (is_data used c.next_data-b-in-loop-b.result) (facts.stop h);
      divided = λ owner tells.
          let is = c.kept_piece-piece.ensures.exact owner tells in
          let end : IsEnd (is_joined used owner b) b (length used) (b + piece.count) = piece_end used owner b piece data_ is in
          subst (λ (xs : List Piece). Divides used owner c.args.items.now.items xs c.next_data-b-in-loop-b.result)
          (sym (c.in_ok-push.ensures.items ∙ ap (λ (p : Piece). c.loop-b.items.items ++ p ∷ []) is))
          (divides_more used owner c.args.items.now.items c.loop-b.items.items b (b + piece.count) c.next_data-b-in-loop-b.result (c.loop-b.invariant.divided owner tells) data_ (omega (arith, c.kept_piece-piece.ensures.some)) end facts);
    }

pub returns : goal.returns
returns c = λ owner tells.
    divides_all c.args.map.now owner c.args.items.now.items c.loop-b.items.items c.loop-b.b (c.loop-b.invariant.divided owner tells) (omega (arith, c.loop-b-test.false, c.len.ensures, c.loop-b.invariant.inside))
