use Rattle.btr_reader_walk.proofs.Imports.{false, sym, ◌∙◌, subst, Contains, err_from_is_err_and, Image, Tree, Walks, Moves, Blames, wrong}
use Rattle.btr_reader_walk.proofs.walker.TreeWalker.step.Goals as goal

pub returns-then-not-branch-clause-comes : goal.returns-then-not-branch-clause-comes
returns-then-not-branch-clause-comes g c = λ tells image is given k.
    let same = g.met.S.BlockSource.kept_blocks c.args.src.now c.loop-self.src tells c.loop-self.invariant.kept ∙ is in
    let here = subst (λ (m : Image). Walks c.loop-self.self m c.args.ranges.now given) (sym same) (c.loop-self.invariant.walks tells image is given k) in
    let end = rw c.if-not-branch.true at (c.in_ok-descend.ensures.moves tells given here) in
    subst (λ (m : Image). Moves false c.args.self.now.tree c.descend.new.self m c.args.ranges.now given) same
    (subst (λ (tree : Tree). Moves false tree c.descend.new.self (g.S.BlockSource.blocks c.loop-self.src) c.args.ranges.now given) c.loop-self.invariant.tree end)

pub returns-in_err-descend-clause-comes : goal.returns-in_err-descend-clause-comes
returns-in_err-descend-clause-comes g c = λ tells image is given k.
    let same = g.met.S.BlockSource.kept_blocks c.args.src.now c.loop-self.src tells c.loop-self.invariant.kept ∙ is in
    let here = subst (λ (m : Image). Walks c.loop-self.self m c.args.ranges.now given) (sym same) (c.loop-self.invariant.walks tells image is given k) in
    let err = err_from_is_err_and c.from_residual.result c.from_residual.ensures.1 in
    rw err.1 (subst (λ (m : Image). Blames (wrong m c.args.ranges.now c.args.self.now.tree) err.0) same
    (subst (Blames (wrong (g.S.BlockSource.blocks c.loop-self.src) c.args.ranges.now c.args.self.now.tree)) (sym err.2)
    (subst (λ (tree : Tree). Blames (wrong (g.S.BlockSource.blocks c.loop-self.src) c.args.ranges.now tree) c.in_err-descend.field-0.0) c.loop-self.invariant.tree (c.in_err-descend.ensures.moves tells given here))))

pub returns-in-Ok-clause-comes : goal.returns-in-Ok-clause-comes
returns-in-Ok-clause-comes g c = λ tells image is given k. c.in-Ok.ensures.comes image c.args.ranges.now given (c.loop-self.invariant.walks tells image is given k)

pub returns-in-Err-clause-comes : goal.returns-in-Err-clause-comes
returns-in-Err-clause-comes g c = λ tells image is given k.
    subst (λ (tree : Tree). Contains (wrong image c.args.ranges.now tree) c.in-Err.refusal) c.loop-self.invariant.tree
    (c.in-Err.ensures.comes image c.args.ranges.now given (c.loop-self.invariant.walks tells image is given k))
