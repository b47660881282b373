use Rattle.btr_check_sums.proofs.Imports.{sym, subst, ◌∙◌, arith, take_all, All-more, Contains-get_or, err_from_is_err_and, All, Image, TellsPart, IsRight, IsWrongDue}
use Rattle.btr_check_sums.proofs.Data.{one_wrong}
use Rattle.btr_check_sums.proofs.judging.judge_all.Goals as goal

pub judge_block-requires : goal.judge_block-requires
judge_block-requires g c = record {
  inside = rw (g.met.S.BlockSource.kept_size c.args.src.now c.loop-d.src c.loop-d.invariant.kept) (c.requires.inside c.loop-d.d-index _ c.loop-d-test.true);
}

pub loop-d-preserved : goal.loop-d-preserved
loop-d-preserved g c =
    let before = c.loop-d.invariant in
    record {
      kept = g.met.S.BlockSource.kept_trans _ _ _ before.kept c.judge_block.ensures.kept;
      same = c.in_ok-judge_block.ensures.cause.kept (λ e. absurd cc) ∙ before.same;
      right = λ tells.
          let here : Image = g.S.BlockSource.blocks c.args.src.now in
          let same = g.met.S.BlockSource.kept_blocks c.args.src.now c.loop-d.src tells before.kept in
          All-more (IsRight here c.args.kind) c.args.due.now c.loop-d.d-index _ c.loop-d-test.true (before.right tells) (c.in_ok-judge_block.ensures.right tells here same);
    }

pub returns-in_err-judge_block-clause-right : goal.returns-in_err-judge_block-clause-right
returns-in_err-judge_block-clause-right g c = λ tells image is.
    let here : Image = g.S.BlockSource.blocks c.args.src.now in
    let same = g.met.S.BlockSource.kept_blocks c.args.src.now c.loop-d.src tells c.loop-d.invariant.kept in
    let err = err_from_is_err_and c.from_residual.result c.from_residual.ensures.1 in
    rw err.1 (subst (λ (m : Image). TellsPart (IsWrongDue m c.args.kind c.args.due.now) err.0) is
    (subst (TellsPart (IsWrongDue here c.args.kind c.args.due.now)) (sym err.2)
    (one_wrong here c.args.kind c.args.due.now _ (Contains-get_or c.args.due.now c.loop-d.d-index _ c.loop-d-test.true) c.in_err-judge_block.field-0.0 (c.in_err-judge_block.ensures.right tells here same))))

pub returns-clause-right : goal.returns-clause-right
returns-clause-right g c = λ tells image is.
    let here : Image = g.S.BlockSource.blocks c.args.src.now in
    subst (λ (m : Image). All (IsRight m c.args.kind) c.args.due.now) is
    (subst (All (IsRight here c.args.kind)) (take_all c.loop-d.d-index c.args.due.now (omega arith)) (c.loop-d.invariant.right tells))
