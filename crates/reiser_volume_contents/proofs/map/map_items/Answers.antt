use Rattle.reiser_volume_contents.proofs.Imports.{◌∙◌, ◌++◌, ◌∷◌, ℕ, List, [], sym, ap, subst, arith, err_from_is_err_and, ReiserItem, items_of, IsFaultOrMemory, NamesLeaf, items_ahead, standing}
use Rattle.reiser_volume_files.specs.Runs.{file_runs}
use Rattle.reiser_volume_contents.proofs.Files.{next_follows, stands_head, stands_body, fault_of}
use Rattle.reiser_volume_contents.proofs.map.map_items.Goals as goal

pub returns-in_err-advance-clause-map : goal.returns-in_err-advance-clause-map
returns-in_err-advance-clause-map g c = λ tells image is all are reads.
    let same = g.met.S.BlockSource.kept_blocks c.args.src.now c.loop-mapper.src tells c.loop-mapper.invariant.kept ∙ is in
    let told = c.loop-mapper.invariant.told tells image is all are reads in
    let fault = fault_of _ (c.in_err-advance.ensures.comes tells image same told.0 all told.1) in
    let err = err_from_is_err_and c.from_residual.result c.from_residual.ensures.1 in
    rw err.1 (subst IsFaultOrMemory (sym err.2) fault)

pub loop-mapper-preserved : goal.loop-mapper-preserved
loop-mapper-preserved g c =
    let before = c.loop-mapper.invariant in
    record {
      kept = g.met.S.BlockSource.kept_trans _ _ _ before.kept c.advance.ensures.kept;
      same = c.in_ok-advance.ensures.cause.kept (λ e. absurd cc) ∙ before.same;
      size = c.add_item.ensures.size ∙ before.size;
      told = λ tells image is all are reads.
          let same = g.met.S.BlockSource.kept_blocks c.args.src.now c.loop-mapper.src tells before.kept ∙ is in
          let told = before.told tells image is all are reads in
          let came = rw c.if-branch.true at (c.in_ok-advance.ensures.comes tells image same told.0 all told.1) in
          let later : List ReiserItem = items_of c.advance.new.self.key (items_ahead image c.args.leaves.now c.advance.new.self) in (
            told.0 ++ came.0 ∷ [],
            came.1,
            c.in_ok-add_item.ensures.given told.0 came.0 (stands_head (standing c.advance.new.self) came.0 c.head.result came.2 c.head.ensures) (stands_body (standing c.advance.new.self) came.0 c.body.result.now came.2 c.body.ensures)
                (next_follows (g.S.BlockSource.size c.args.src.now) all told.0 came.0 later are came.1.whole) told.2,
          );
      from = λ first from. c.in_ok-advance.ensures.from first (before.from first from);
    }

pub returns-clause-map : goal.returns-clause-map
returns-clause-map g c = λ tells image is all are reads.
    let same = g.met.S.BlockSource.kept_blocks c.args.src.now c.loop-mapper.src tells c.loop-mapper.invariant.kept ∙ is in
    let told = c.loop-mapper.invariant.told tells image is all are reads in
    let over = rw c.if-branch.false at (c.in_ok-advance.ensures.comes tells image same told.0 all told.1) in
    c.in_ok-map.ensures told.0 told.2
    ∙ (ap (λ (xs : List ReiserItem). file_runs xs c.loop-mapper.mapper.size) over ∙ ap (λ (n : ℕ). file_runs all n) c.loop-mapper.invariant.size)

pub returns-in_err-advance-clause-names : goal.returns-in_err-advance-clause-names
returns-in_err-advance-clause-names g c = λ first from.
    let named = c.in_err-advance.ensures.names first (c.loop-mapper.invariant.from first from) in
    let err = err_from_is_err_and c.from_residual.result c.from_residual.ensures.1 in
    rw err.1 (subst (NamesLeaf first c.args.leaves.now) (sym err.2) named)
