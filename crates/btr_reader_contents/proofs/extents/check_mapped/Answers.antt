use Rattle.btr_reader_contents.proofs.Unmapped.{mapped_on, unmapped_at}
use Rattle.btr_reader_contents.proofs.extents.check_mapped.Goals as goal

pub loop-i-preserved : goal.loop-i-preserved
loop-i-preserved c =
    mapped_on c.args.ranges.now c.args.count c.loop-i.i c.args.address c.place.result c.is_none.result c.loop-i-test.true c.place.ensures c.is_none.ensures c.if-is_none.false c.loop-i.invariant

pub returns-then-is_none-clause-err : goal.returns-then-is_none-clause-err
returns-then-is_none-clause-err c =
    unmapped_at c.args.ranges.now c.args.count c.loop-i.i c.args.address c.place.result c.is_none.result c.loop-i-test.true c.place.ensures c.is_none.ensures c.if-is_none.true c.loop-i.invariant
