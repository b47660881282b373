use Rattle.btr_check_sums.proofs.Imports.{arith, sym, ◌∙◌}
use Rattle.btr_check_sums.proofs.PlaceRuns.{none_holds, run_has, run_tells, skip_one}
use Rattle.btr_check_sums.proofs.places.run_from.Goals as goal

pub loop-range-preserved : goal.loop-range-preserved
loop-range-preserved c =
    let before = c.loop-range.invariant in
    record {
      above = c.cut-end.ensures.above before.above;
      skipped = λ a from below.
          before.skipped a from (omega (arith, below, c.cut-end.ensures.most))
          ∙ skip_one c.args.ranges.now c.loop-range.range-index _ a c.loop-range-test.true (c.cut-end.ensures.free a from below);
    }

pub returns-then-holds : goal.returns-then-holds
returns-then-holds c =
    let before = c.loop-range.invariant in
    let ensures = c.run_of.ensures in (
      run_has c.run_of.result c.args.address (omega (arith, ensures.first)) ensures.above,
      run_tells c.args.ranges.now c.loop-range.range-index _ c.args.address c.loop-range.end c.run_of.result c.loop-range-test.true before.skipped ensures.first ensures.most
          ensures.held (sym c.holds.ensures ∙ c.if-holds.true) ensures.place,
    )

pub returns : goal.returns
returns c =
    none_holds c.args.ranges.now c.loop-range.range-index c.args.address (omega arith) (c.loop-range.invariant.skipped c.args.address (omega arith) c.loop-range.invariant.above)
