use Rattle.unit_plan.proofs.Imports.{◌≡◌, ◌<◌, length, get_or, sym, ◌∙◌, ap, arith, take_all, get_or-replicate, get_or_from_slice_get, Run, is_longer}
use Rattle.unit_plan.proofs.RunSums.{part, units_in-nil, part_more, part_small}
use Rattle.unit_plan.proofs.staying.units_in_longer.Goals as goal

pub loop-i-init : goal.loop-i-init
loop-i-init c = λ n small. get_or-replicate 256 n 0 0 small ∙ sym units_in-nil

pub add_below-requires : goal.add_below-requires
add_below-requires c = λ n small.
    let run : Run = c.get.result in
    let inside : c.loop-i.i < length c.args.runs.now = omega (arith, c.loop-i-test.true, c.len-i-end.ensures) in
    let is : get_or c.args.runs.now c.loop-i.i run ≡ run = get_or_from_slice_get c.args.runs.now c.loop-i.i run run c.get.ensures in
    omega (arith, c.loop-i.invariant n small, part_small (is_longer n) c.args.runs.now c.loop-i.i run c.requires inside is)

pub loop-i-preserved : goal.loop-i-preserved
loop-i-preserved c = λ n small.
    let run : Run = c.get.result in
    let inside : c.loop-i.i < length c.args.runs.now = omega (arith, c.loop-i-test.true, c.len-i-end.ensures) in
    let is : get_or c.args.runs.now c.loop-i.i run ≡ run = get_or_from_slice_get c.args.runs.now c.loop-i.i run run c.get.ensures in
    omega (arith, c.add_below.ensures n small, c.loop-i.invariant n small, part_more (is_longer n) c.args.runs.now c.loop-i.i run inside is)

pub returns : goal.returns
returns c = λ n small.
    c.loop-i.invariant n small ∙ ap (part (is_longer n)) (take_all c.loop-i.i c.args.runs.now (omega (arith, c.loop-i-test.false, c.loop-i.auto.i-end, c.len-i-end.ensures)))
