use Rattle.volume_state.proofs.Lying.{none_by_map, nowhere_all, nowhere_more, one_by_map}
use Rattle.volume_state.proofs.reserved.reserved_in.Goals as goal

pub returns-in-Some : goal.returns-in-Some
returns-in-Some c = λ apart.
    one_by_map c.args.ranges.now c.args.address c.args.count c.args.blocks c.loop-range.range-index c.in-Some.block _ c.loop-range-test.true c.in-Some.ensures apart

pub loop-range-preserved : goal.loop-range-preserved
loop-range-preserved c =
    nowhere_more c.args.ranges.now c.loop-range.range-index _ c.args.address c.args.count c.args.blocks c.loop-range-test.true c.loop-range.invariant c.in_default.ensures

pub returns : goal.returns
returns c = λ apart.
    none_by_map c.args.ranges.now c.args.address c.args.count c.args.blocks
    (nowhere_all c.args.ranges.now c.loop-range.range-index c.args.address c.args.count c.args.blocks c.loop-range-test.false c.loop-range.invariant)
