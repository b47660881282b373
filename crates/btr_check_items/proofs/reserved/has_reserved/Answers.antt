use Rattle.btr_check_items.proofs.Imports.{refl, arith, false≢true}
use Rattle.btr_check_items.proofs.Deciding.{always, never}
use Rattle.btr_check_items.proofs.ReservedRules.{none_in_group}
use Rattle.btr_check_items.proofs.reserved.has_reserved.Goals as goal

pub returns-then-is_reserved : goal.returns-then-is_reserved
returns-then-is_reserved c = always (c.loop-block.block, c.loop-block.invariant.low, c.loop-block-test.true, c.if-is_reserved.ensures.fact.0 refl)

pub returns : goal.returns
returns c = never (λ some. let (block, low, high, is) = some in c.loop-block.invariant.none block low (omega arith) is)

pub loop-block-preserved : goal.loop-block-preserved
loop-block-preserved c = record {
  low = omega arith;
  high = λ some. omega arith;
  none = none_in_group c.args.first c.loop-block.block c.args.blocks c.loop-block.invariant.none (λ is. false≢true (c.if-is_reserved.ensures.fact.1 is));
}
