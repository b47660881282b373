use Rattle.extent_pieces.proofs.Imports.{◌+◌, not, length, arith, is_data}
use Rattle.extent_pieces.proofs.Dividing.{stops}
use Rattle.extent_pieces.proofs.Ending.{end_of}
use Rattle.extent_pieces.proofs.divide.count_kept.Goals as goal

pub loop-b-init : goal.loop-b-init
loop-b-init c =
    let used = c.args.map.now in
    let facts = end_of (λ b. not (is_data used b)) 0 (length used) c.next_data-b.result c.next_data-b.ensures (omega arith) in
    record { few = omega arith; inside = facts.high; data_ = λ h. stops (is_data used c.next_data-b.result) (facts.stop h) }

pub loop-b-smaller : goal.loop-b-smaller
loop-b-smaller c =
    let used = c.args.map.now in
    let facts = end_of (λ b. not (is_data used b)) (c.loop-b.b + c.kept_piece.result.count) (length used) c.next_data-b-in-loop-b.result c.next_data-b-in-loop-b.ensures c.kept_piece.ensures.inside in
    omega (arith, facts.low, facts.high, c.kept_piece.ensures.some, c.kept_piece.ensures.inside)

pub loop-b-preserved : goal.loop-b-preserved
loop-b-preserved c =
    let used = c.args.map.now in
    let facts = end_of (λ b. not (is_data used b)) (c.loop-b.b + c.kept_piece.result.count) (length used) c.next_data-b-in-loop-b.result c.next_data-b-in-loop-b.ensures c.kept_piece.ensures.inside in
    record {
      few = omega (arith, facts.low, c.kept_piece.ensures.some, c.loop-b.invariant.few);
      inside = facts.high;
      data_ = λ h. stops (is_data used c.next_data-b-in-loop-b.result) (facts.stop h);
    }
