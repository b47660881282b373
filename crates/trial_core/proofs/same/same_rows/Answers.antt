use Rattle.trial_core.proofs.Imports.{◌≤◌, ◌<◌, length, refl, sym, ◌∙◌, arith, take_more_same, take_all, Row}
use Rattle.trial_core.proofs.Reading.{got}
use Rattle.trial_core.proofs.same.same_rows.Goals as goal

pub loop-i-init : goal.loop-i-init
loop-i-init c = record {
  lengths = omega (arith, c.len.ensures, c.len-2.ensures, c.if-len.false);
  same = refl;
}

pub loop-i-preserved : goal.loop-i-preserved
loop-i-preserved c =
    let inside : c.loop-i.i < length c.args.rows.now = omega (arith, c.loop-i-test.true, c.len-i-end.ensures) in
    let d : Row = c.get.result.now in
    let first = got c.args.rows.now c.loop-i.i c.get.result.now d c.get.ensures in
    let second = got c.args.others.now c.loop-i.i c.get-in-loop-i.result.now d c.get-in-loop-i.ensures in
    record {
      lengths = c.loop-i.invariant.lengths;
      same =
          take_more_same c.args.others.now c.args.rows.now c.loop-i.i d (omega (arith, inside, c.loop-i.invariant.lengths)) inside c.loop-i.invariant.same
          (second ∙ (c.same_row.ensures.0 c.if-not-same_row.false ∙ sym first));
    }

pub returns : goal.returns
returns c =
    let past : length c.args.rows.now ≤ c.loop-i.i = omega (arith, c.loop-i-test.false, c.len-i-end.ensures) in
    let all =
    sym (take_all c.loop-i.i c.args.others.now (omega (arith, past, c.loop-i.invariant.lengths))) ∙ (c.loop-i.invariant.same ∙ take_all c.loop-i.i c.args.rows.now past) in
    (λ is. all, λ same. refl)
