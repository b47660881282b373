use Rattle.unit_plan.proofs.Imports.{◌≡◌, true, false, take, get_or, sym, ◌∙◌, ap, arith, filter, le-leb, lt-leb, take_all, get_or_from_slice_get, Run, is_long, lowest_long}
use Rattle.unit_plan.proofs.Lists.{first_passes, none_passes_more}
use Rattle.unit_plan.proofs.choice.first_long.Goals as goal

pub returns-then-count-run : goal.returns-then-count-run
unfolding lowest_long
returns-then-count-run c =
    let none : Run = record { first = 0; count = 0 } in
    let is : get_or c.args.runs.now c.loop-i.i none ≡ c.get-run.result = get_or_from_slice_get c.args.runs.now c.loop-i.i c.get-run.result none c.get-run.ensures in
    let passes : is_long c.args.count (get_or c.args.runs.now c.loop-i.i none) ≡ true = ap (is_long c.args.count) is ∙ le-leb _ _ c.if-count-run.true in
    sym (ap (λ (r : Run). r.first) (first_passes (is_long c.args.count) c.args.runs.now c.loop-i.i none none (omega (arith, c.loop-i-test.true, c.len-i-end.ensures)) c.loop-i.invariant passes ∙ is))

pub loop-i-preserved : goal.loop-i-preserved
loop-i-preserved c =
    let none : Run = record { first = 0; count = 0 } in
    let is : get_or c.args.runs.now c.loop-i.i none ≡ c.get-run.result = get_or_from_slice_get c.args.runs.now c.loop-i.i c.get-run.result none c.get-run.ensures in
    let fails : is_long c.args.count (get_or c.args.runs.now c.loop-i.i none) ≡ false = ap (is_long c.args.count) is ∙ lt-leb _ _ c.if-count-run.false in
    none_passes_more (is_long c.args.count) c.args.runs.now c.loop-i.i none (omega (arith, c.loop-i-test.true, c.len-i-end.ensures)) c.loop-i.invariant fails

pub returns : goal.returns
unfolding lowest_long
returns c =
    let none : Run = record { first = 0; count = 0 } in
    let all : take c.loop-i.i c.args.runs.now ≡ c.args.runs.now = take_all c.loop-i.i c.args.runs.now (omega (arith, c.loop-i-test.false, c.len-i-end.ensures)) in
    sym (ap (λ rs. (get_or rs 0 none).first) (sym (ap (filter (is_long c.args.count)) all) ∙ c.loop-i.invariant))
