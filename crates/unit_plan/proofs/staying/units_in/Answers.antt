use Rattle.unit_plan.proofs.Imports.{◌≡◌, ◌<◌, length, get_or, sym, ◌∙◌, ap, arith, take_all, get_or_from_slice_get, Run, units_in}
use Rattle.unit_plan.proofs.RunSums.{units_in-nil, units_more, sum_small}
use Rattle.unit_plan.proofs.staying.units_in.Goals as goal

pub loop-i-init : goal.loop-i-init
loop-i-init c = sym units_in-nil

pub overflow_add-units : goal.overflow_add-units
overflow_add-units c =
    let run : Run = c.get-units.result in
    let inside : c.loop-i.i < length c.args.runs.now = omega (arith, c.loop-i-test.true, c.len-i-end.ensures) in
    let is : get_or c.args.runs.now c.loop-i.i run ≡ run = get_or_from_slice_get c.args.runs.now c.loop-i.i run run c.get-units.ensures in
    omega (arith, c.loop-i.invariant, sum_small c.args.runs.now c.loop-i.i run c.requires inside is)

pub loop-i-preserved : goal.loop-i-preserved
loop-i-preserved c =
    let run : Run = c.get-units.result in
    let inside : c.loop-i.i < length c.args.runs.now = omega (arith, c.loop-i-test.true, c.len-i-end.ensures) in
    let is : get_or c.args.runs.now c.loop-i.i run ≡ run = get_or_from_slice_get c.args.runs.now c.loop-i.i run run c.get-units.ensures in
    omega (arith, c.loop-i.invariant, units_more c.args.runs.now c.loop-i.i run inside is)

pub returns : goal.returns
returns c = c.loop-i.invariant ∙ ap units_in (take_all c.loop-i.i c.args.runs.now (omega (arith, c.loop-i-test.false, c.loop-i.auto.i-end, c.len-i-end.ensures)))
