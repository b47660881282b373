use Rattle.extent_pieces.proofs.Imports.{◌≡◌, ◌+◌, ◌∙◌, true, not, length, arith, ap, sym, is_reserved, is_data, has, end_is}
use Rattle.extent_pieces.proofs.Dividing.{data_here, data_past, data_start, stops}
use Rattle.extent_pieces.proofs.Ending.{end_of}
use Rattle.extent_pieces.proofs.divide.next_data.Goals as goal

pub loop-b-init : goal.loop-b-init
loop-b-init c =
    let used = c.args.map.now in
    let facts = end_of (λ k. not (has used k)) c.args.from c.len.result c.next_used-b.result c.next_used-b.ensures (omega (arith, c.requires, c.len.ensures)) in
    record {
      low = facts.low;
      inside = omega (arith, facts.high, c.len.ensures);
      used = λ h. stops (has used c.next_used-b.result) (facts.stop (omega (arith, h, c.len.ensures)));
      none = data_start used c.len.result c.args.from c.next_used-b.result facts;
    }

pub loop-b-smaller : goal.loop-b-smaller
loop-b-smaller c =
    let used = c.args.map.now in
    let facts = end_of (λ k. not (has used k)) (c.loop-b.b + 1) c.len-in-loop-b-3.result c.next_used-b-in-loop-b.result c.next_used-b-in-loop-b.ensures (omega (arith, c.loop-b-test.true, c.len-in-loop-b.ensures, c.len-in-loop-b-3.ensures)) in
    omega (arith, facts.low, facts.high, c.loop-b-test.true, c.len-in-loop-b.ensures, c.len-in-loop-b-3.ensures)

pub loop-b-preserved : goal.loop-b-preserved
loop-b-preserved c =
    let used = c.args.map.now in
    let facts = end_of (λ k. not (has used k)) (c.loop-b.b + 1) c.len-in-loop-b-3.result c.next_used-b-in-loop-b.result c.next_used-b-in-loop-b.ensures (omega (arith, c.loop-b-test.true, c.len-in-loop-b.ensures, c.len-in-loop-b-3.ensures)) in
    let reserved : is_reserved c.loop-b.b (length used) ≡ true = ap (is_reserved c.loop-b.b) (sym c.len-in-loop-b-2.ensures) ∙ (sym c.is_reserved.ensures.test ∙ c.if-is_reserved.true) in
    record {
      low = omega (arith, facts.low, c.loop-b.invariant.low);
      inside = omega (arith, facts.high, c.len-in-loop-b-3.ensures);
      used = λ h. stops (has used c.next_used-b-in-loop-b.result) (facts.stop (omega (arith, h, c.len-in-loop-b-3.ensures)));
      none = data_past used c.len-in-loop-b-3.result c.args.from c.loop-b.b c.next_used-b-in-loop-b.result c.loop-b.invariant.none reserved facts;
    }

pub returns-else-is_reserved : goal.returns-else-is_reserved
returns-else-is_reserved c =
    let used = c.args.map.now in
    end_is (λ b. not (is_data used b)) c.args.from (length used) c.loop-b.b (record {
      low = c.loop-b.invariant.low;
      high = c.loop-b.invariant.inside;
      all = c.loop-b.invariant.none;
      stop = λ h. data_here used c.loop-b.b c.len-in-loop-b-2.result (c.loop-b.invariant.used h) c.len-in-loop-b-2.ensures (sym c.is_reserved.ensures.test ∙ c.if-is_reserved.false);
    })

pub returns-after-loop-b : goal.returns-after-loop-b
returns-after-loop-b c =
    let used = c.args.map.now in
    end_is (λ b. not (is_data used b)) c.args.from (length used) c.loop-b.b (record {
      low = c.loop-b.invariant.low;
      high = c.loop-b.invariant.inside;
      all = c.loop-b.invariant.none;
      stop = λ h. absurd (omega (arith, h, c.loop-b-test.false, c.len-in-loop-b.ensures));
    })
