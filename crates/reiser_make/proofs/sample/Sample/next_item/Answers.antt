use Rattle.reiser_make.proofs.Imports.{sym, ◌∙◌, arith}
use Rattle.reiser_make.proofs.Walking.{behind_item, behind_none, behind_end}
use Rattle.reiser_make.proofs.sample.Sample.next_item.Goals as goal

pub overflow_add-at : goal.overflow_add-at
overflow_add-at c = omega (arith, c.in-Some.ensures.few)

pub returns-in-Some-clause-next : goal.returns-in-Some-clause-next
returns-in-Some-clause-next c =
    sym c.loop-at.invariant
    ∙ behind_item c.args.self.now c.loop-at.at.object c.loop-at.at.part c.in-Some.item (omega (arith, c.loop-at-test.true, c.object_count-objects.ensures, c.number.ensures.number)) (sym c.in-Some.ensures.item)

pub loop-at-preserved : goal.loop-at-preserved
loop-at-preserved c =
    sym (behind_none c.args.self.now c.loop-at.at.object c.loop-at.at.part (omega (arith, c.loop-at-test.true, c.object_count-objects.ensures, c.number.ensures.number)) (sym c.in-None.ensures.item))
    ∙ c.loop-at.invariant

pub returns-clause-next : goal.returns-clause-next
returns-clause-next c =
    sym c.loop-at.invariant
    ∙ behind_end c.args.self.now c.loop-at.at.object c.loop-at.at.part (omega (arith, c.loop-at-test.false, c.object_count-objects.ensures, c.number.ensures.number))
