use Rattle.btr_check_trees.proofs.Imports.{sym, subst, All, Contains, take_all, All-more, Contains-get_or}
use Rattle.btr_check_trees.proofs.SameChunks.{none_missing, one_among, one_missing}
use Rattle.btr_check_trees.proofs.among.are_among.Goals as goal

pub loop-c-preserved : goal.loop-c-preserved
loop-c-preserved c =
    All-more (λ d. Contains c.args.others.now d) c.args.chunks.now c.loop-c.c-index _ c.loop-c-test.true c.loop-c.invariant (one_among _ c.args.others.now (sym c.if-not-is_among.ensures))

pub returns-then-not-is_among : goal.returns-then-not-is_among
returns-then-not-is_among c =
    one_missing c.args.chunks.now c.args.others.now _ (Contains-get_or c.args.chunks.now c.loop-c.c-index _ c.loop-c-test.true) (sym c.if-not-is_among.ensures)

pub returns : goal.returns
returns c =
    none_missing c.args.chunks.now c.args.others.now
    (subst (All (λ d. Contains c.args.others.now d)) (take_all c.loop-c.c-index c.args.chunks.now c.loop-c-test.false) c.loop-c.invariant)
