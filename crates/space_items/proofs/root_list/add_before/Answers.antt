use Rattle.space_items.proofs.Imports.{arith, subst, sym, both_ways, Key, IsBefore}
use Rattle.space_items.proofs.Merging.{range_more, key_at, before_more}
use Rattle.space_items.proofs.root_list.add_before.Goals as goal

pub loop-next-preserved : goal.loop-next-preserved
loop-next-preserved c = record {
  low = omega (arith, c.loop-next.invariant.low);
  within = omega (arith, c.loop-next-test.true, c.len.ensures);
  added =
      range_more c.args.items.now c.loop-next.items c.add.new.self c.args.others.now c.args.first c.loop-next.next c.key-in-loop-next.result c.body.result.now c.loop-next.invariant.low
      (omega (arith, c.loop-next-test.true, c.len.ensures)) c.loop-next.invariant.added c.key-in-loop-next.ensures c.body.ensures c.in_ok-add.ensures.ok;
  before =
      before_more c.args.others.now c.args.first c.loop-next.next c.args.key c.key.result c.loop-next.invariant.before
      (key_at c.args.others.now c.loop-next.next c.key.result (omega (arith, c.loop-next-test.true, c.len.ensures)) c.key.ensures) (c.is_before.ensures.0 c.if-is_before.true);
}

pub returns-else-is_before-clause-passed : goal.returns-else-is_before-clause-passed
returns-else-is_before-clause-passed c = record {
  low = c.loop-next.invariant.low;
  within = c.loop-next.invariant.within;
  before = c.loop-next.invariant.before;
  behind = λ d within is. both_ways c.is_before.result c.if-is_before.false
      (c.is_before.ensures.1 (subst (λ (own : Key). IsBefore own c.args.key) (sym (key_at c.args.others.now c.loop-next.next c.key.result within c.key.ensures d)) is));
}
