use Rattle.reiser_volume_contents.proofs.Imports.{◌∙◌, ◌++◌, ◌∷◌, List, [], refl, sym, ap, subst, arith, err_from_is_err_and, ReiserItem, tail_block, items_of, IsFault, NamesLeaf, items_ahead, standing}
use Rattle.reiser_volume_contents.proofs.Files.{next_follows, stands_head, stands_body, empty_tail}
use Rattle.reiser_volume_contents.proofs.tail.gather_items.Goals as goal

pub loop-into-init : goal.loop-into-init
loop-into-init g c = record {
  kept = g.met.S.BlockSource.kept_refl c.args.src.now;
  same = refl;
  told = λ tells image is all are reads. ([], reads, c.zero.ensures ∙ sym (empty_tail c.args.size c.args.k));
  from = λ first from. from;
}

pub returns-in_err-advance-clause-tail : goal.returns-in_err-advance-clause-tail
returns-in_err-advance-clause-tail g c = λ tells image is all are reads.
    let same = g.met.S.BlockSource.kept_blocks c.args.src.now c.loop-into.src tells c.loop-into.invariant.kept ∙ is in
    let told = c.loop-into.invariant.told tells image is all are reads in
    let fault = c.in_err-advance.ensures.comes tells image same told.0 all told.1 in
    let err = err_from_is_err_and c.from_residual.result c.from_residual.ensures.1 in
    rw err.1 (subst IsFault (sym err.2) fault)

pub loop-into-preserved : goal.loop-into-preserved
loop-into-preserved g c =
    let before = c.loop-into.invariant in
    record {
      kept = g.met.S.BlockSource.kept_trans _ _ _ before.kept c.advance.ensures.kept;
      same = c.in_ok-advance.ensures.cause.kept (λ e. absurd cc) ∙ before.same;
      told = λ tells image is all are reads.
          let same = g.met.S.BlockSource.kept_blocks c.args.src.now c.loop-into.src tells before.kept ∙ is in
          let told = before.told tells image is all are reads in
          let came = rw c.if-branch.true at (c.in_ok-advance.ensures.comes tells image same told.0 all told.1) in
          let later : List ReiserItem = items_of c.advance.new.self.key (items_ahead image c.args.leaves.now c.advance.new.self) in (
            told.0 ++ came.0 ∷ [],
            came.1,
            c.put_tail.ensures told.0 came.0 (stands_head (standing c.advance.new.self) came.0 c.head.result came.2 c.head.ensures) (stands_body (standing c.advance.new.self) came.0 c.body.result.now came.2 c.body.ensures)
                (next_follows (g.S.BlockSource.size c.args.src.now) all told.0 came.0 later are came.1.whole) told.2,
          );
      from = λ first from. c.in_ok-advance.ensures.from first (before.from first from);
    }

pub returns-clause-tail : goal.returns-clause-tail
returns-clause-tail g c = λ tells image is all are reads.
    let same = g.met.S.BlockSource.kept_blocks c.args.src.now c.loop-into.src tells c.loop-into.invariant.kept ∙ is in
    let told = c.loop-into.invariant.told tells image is all are reads in
    let over = rw c.if-branch.false at (c.in_ok-advance.ensures.comes tells image same told.0 all told.1) in
    told.2 ∙ ap (λ (xs : List ReiserItem). tail_block xs c.args.size c.args.k) over

pub returns-in_err-advance-clause-names : goal.returns-in_err-advance-clause-names
returns-in_err-advance-clause-names g c = λ first from.
    let named = c.in_err-advance.ensures.names first (c.loop-into.invariant.from first from) in
    let err = err_from_is_err_and c.from_residual.result c.from_residual.ensures.1 in
    rw err.1 (subst (NamesLeaf first c.args.leaves.now) (sym err.2) named)
