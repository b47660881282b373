use Rattle.reiser_volume_contents.proofs.Imports.{◌∙◌, sym, subst, arith, err_from_is_err_and, IsFault, NamesLeaf}
use Rattle.reiser_volume_contents.proofs.object_items.ObjectItems.advance.Goals as goal

pub returns-in_err-fill-clause-comes : goal.returns-in_err-fill-clause-comes
returns-in_err-fill-clause-comes g c = λ tells image is given items reads.
    let same = g.met.S.BlockSource.kept_blocks c.args.src.now c.loop-self.src tells c.loop-self.invariant.kept ∙ is in
    let fault = c.in_err-fill.ensures.fills tells image same given items (c.loop-self.invariant.reads tells image is given items reads) in
    let err = err_from_is_err_and c.from_residual.result c.from_residual.ensures.1 in
    rw err.1 (subst IsFault (sym err.2) fault)

pub loop-self-preserved : goal.loop-self-preserved
loop-self-preserved g c = record {
  kept = g.met.S.BlockSource.kept_trans _ _ _ c.loop-self.invariant.kept c.fill.ensures.kept;
  same = c.in_ok-fill.ensures.cause.kept (λ e. absurd cc) ∙ c.loop-self.invariant.same;
  key = c.look.ensures.key ∙ (c.fill.ensures.key ∙ c.loop-self.invariant.key);
  fewer = omega (arith, c.loop-self.invariant.fewer, c.fill.ensures.fuel, c.look.ensures.fuel c.args.leaves.now);
  reads = λ tells image is given items reads.
      let same = g.met.S.BlockSource.kept_blocks c.args.src.now c.loop-self.src tells c.loop-self.invariant.kept ∙ is in
      let here = rw c.if-branch.true at (c.in_ok-fill.ensures.fills tells image same given items (c.loop-self.invariant.reads tells image is given items reads)) in
      c.in-Less.ensures.looks c.args.leaves.now image given items here;
  from = λ first from. c.look.ensures.from first c.args.leaves.now (c.in_ok-fill.ensures.from first (c.loop-self.invariant.from first from));
}

pub returns-in-Equal-clause-kept : goal.returns-in-Equal-clause-kept
returns-in-Equal-clause-kept g c = g.met.S.BlockSource.kept_trans _ _ _ c.loop-self.invariant.kept c.fill.ensures.kept

pub returns-in-Equal-clause-comes : goal.returns-in-Equal-clause-comes
returns-in-Equal-clause-comes g c = λ tells image is given items reads.
    let same = g.met.S.BlockSource.kept_blocks c.args.src.now c.loop-self.src tells c.loop-self.invariant.kept ∙ is in
    let here = rw c.if-branch.true at (c.in_ok-fill.ensures.fills tells image same given items (c.loop-self.invariant.reads tells image is given items reads)) in
    c.in-Equal.ensures.looks c.args.leaves.now image given items here

pub returns-in-Greater-clause-kept : goal.returns-in-Greater-clause-kept
returns-in-Greater-clause-kept g c = g.met.S.BlockSource.kept_trans _ _ _ c.loop-self.invariant.kept c.fill.ensures.kept

pub returns-in-Greater-clause-comes : goal.returns-in-Greater-clause-comes
returns-in-Greater-clause-comes g c = λ tells image is given items reads.
    let same = g.met.S.BlockSource.kept_blocks c.args.src.now c.loop-self.src tells c.loop-self.invariant.kept ∙ is in
    let here = rw c.if-branch.true at (c.in_ok-fill.ensures.fills tells image same given items (c.loop-self.invariant.reads tells image is given items reads)) in
    c.in-Greater.ensures.looks c.args.leaves.now image given items here

pub returns-clause-comes : goal.returns-clause-comes
returns-clause-comes g c = λ tells image is given items reads.
    let same = g.met.S.BlockSource.kept_blocks c.args.src.now c.loop-self.src tells c.loop-self.invariant.kept ∙ is in
    rw c.if-branch.false at (c.in_ok-fill.ensures.fills tells image same given items (c.loop-self.invariant.reads tells image is given items reads))

pub returns-in_err-fill-clause-names : goal.returns-in_err-fill-clause-names
returns-in_err-fill-clause-names g c = λ first from.
    let named = c.in_err-fill.ensures.names first (c.loop-self.invariant.from first from) in
    let err = err_from_is_err_and c.from_residual.result c.from_residual.ensures.1 in
    rw err.1 (subst (NamesLeaf first c.args.leaves.now) (sym err.2) named)

pub returns-in-Equal-clause-from : goal.returns-in-Equal-clause-from
returns-in-Equal-clause-from g c = λ first from. c.look.ensures.from first c.args.leaves.now (c.in_ok-fill.ensures.from first (c.loop-self.invariant.from first from))

pub returns-in-Greater-clause-from : goal.returns-in-Greater-clause-from
returns-in-Greater-clause-from g c = λ first from. c.look.ensures.from first c.args.leaves.now (c.in_ok-fill.ensures.from first (c.loop-self.invariant.from first from))

pub returns-clause-from : goal.returns-clause-from
returns-clause-from g c = λ first from. c.in_ok-fill.ensures.from first (c.loop-self.invariant.from first from)
