use Rattle.reiser_walk.proofs.Imports.{false, ◌∙◌, subst, ReiserTree, Moves}
use Rattle.reiser_walk.specs.Answers.{BlamesDamage}
use Rattle.reiser_bitmap.specs.refusals.declared.answer.VolAnswer.TheVariants.{Refused}
use Rattle.reiser_walk.proofs.walker.Walker.step.Goals as goal

pub returns-in-Ok-false-clause-comes : goal.returns-in-Ok-false-clause-comes
returns-in-Ok-false-clause-comes g c = λ tells image is given k.
    let same = g.met.S.BlockSource.kept_blocks c.args.src.now c.loop-self.src tells c.loop-self.invariant.kept ∙ is in
    let end = rw c.in-Ok-false.field-0-test at (c.in-Ok-false.ensures.moves tells image same given (c.loop-self.invariant.walks tells image is given k)) in
    subst (λ (tree : ReiserTree). Moves false tree c.descend.new.self image c.args.map.now given) c.loop-self.invariant.tree end

pub returns-in-Err-clause-comes : goal.returns-in-Err-clause-comes
returns-in-Err-clause-comes g c = λ tells image is given k.
    let same = g.met.S.BlockSource.kept_blocks c.args.src.now c.loop-self.src tells c.loop-self.invariant.kept ∙ is in
    subst (λ (tree : ReiserTree). BlamesDamage tree image c.args.map.now c.in-Err.e) c.loop-self.invariant.tree (c.in-Err.ensures.moves tells image same given (c.loop-self.invariant.walks tells image is given k))

pub returns-in-Ok-clause-comes : goal.returns-in-Ok-clause-comes
returns-in-Ok-clause-comes g c = λ tells image is given k. c.in-Ok.ensures.comes image given (c.loop-self.invariant.walks tells image is given k)

pub returns-in-Err-take_item-clause-comes : goal.returns-in-Err-take_item-clause-comes
returns-in-Err-take_item-clause-comes g c = λ tells image is given k.
    subst (λ (tree : ReiserTree). BlamesDamage tree image c.args.map.now (Refused c.in-Err-take_item.e)) c.loop-self.invariant.tree
    (c.in-Err-take_item.ensures.comes image given (c.loop-self.invariant.walks tells image is given k))
