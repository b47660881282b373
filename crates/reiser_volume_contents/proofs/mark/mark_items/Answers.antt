use Rattle.reiser_volume_contents.proofs.Imports.{◌≡◌, ◌∙◌, ◌++◌, ◌∷◌, ℕ, List, [], refl, true, sym, ap, subst, arith, err_from_is_err_and, ReiserItem, file_bytes, are_inside, items_of, IsFault, NamesLeaf, items_ahead}
use Rattle.fs_rows.specs.Mark.{mark_of_bytes}
use Rattle.reiser_volume_contents.proofs.Files.{next_follows, next_inside}
use Rattle.reiser_volume_contents.proofs.mark.mark_items.Goals as goal

pub loop-marker-init : goal.loop-marker-init
loop-marker-init g c = record {
  kept = g.met.S.BlockSource.kept_refl c.args.src.now;
  same = refl;
  size = c.new-marker.ensures.size;
  told = λ tells image is all are reads. ([], reads, c.new-marker.ensures.none image);
  from = λ first from. from;
}

pub returns-in_err-advance-clause-mark : goal.returns-in_err-advance-clause-mark
returns-in_err-advance-clause-mark g c = λ tells image is all are reads.
    let same = g.met.S.BlockSource.kept_blocks c.args.src.now c.loop-marker.src tells c.loop-marker.invariant.kept ∙ is in
    let told = c.loop-marker.invariant.told tells image is all are reads in
    let fault = c.in_err-advance.ensures.comes tells image same told.0 all told.1 in
    let err = err_from_is_err_and c.from_residual.result c.from_residual.ensures.1 in
    rw err.1 (subst IsFault (sym err.2) fault)

pub loop-marker-preserved : goal.loop-marker-preserved
loop-marker-preserved g c =
    let before = c.loop-marker.invariant in
    let kept = g.met.S.BlockSource.kept_trans _ _ _ before.kept c.advance.ensures.kept in
    record {
      kept = g.met.S.BlockSource.kept_trans _ _ _ kept c.mark_item.ensures.kept;
      same = c.in_ok-mark_item.ensures.cause.kept (λ e. absurd cc) ∙ (c.in_ok-advance.ensures.cause.kept (λ e. absurd cc) ∙ before.same);
      size = c.mark_item.ensures.size ∙ before.size;
      told = λ tells image is all are reads.
          let same = g.met.S.BlockSource.kept_blocks c.args.src.now c.loop-marker.src tells before.kept ∙ is in
          let next = g.met.S.BlockSource.kept_blocks c.args.src.now c.advance.new.src tells kept ∙ is in
          let told = before.told tells image is all are reads in
          let came = rw c.if-branch.true at (c.in_ok-advance.ensures.comes tells image same told.0 all told.1) in
          let later : List ReiserItem = items_of c.advance.new.self.key (items_ahead image c.args.leaves.now c.advance.new.self) in
          let inside = next_inside (g.S.BlockSource.size c.args.src.now) all told.0 came.0 later are came.1.whole in
          let here = subst (λ (n : ℕ). are_inside came.0.head.kind came.0.body n ≡ true) (sym (g.met.S.BlockSource.kept_size c.args.src.now c.advance.new.src kept)) inside in (
            told.0 ++ came.0 ∷ [],
            came.1,
            c.in_ok-mark_item.ensures.given tells image next told.0 came.0 came.2 (next_follows (g.S.BlockSource.size c.args.src.now) all told.0 came.0 later are came.1.whole) here told.2,
          );
      from = λ first from. c.in_ok-advance.ensures.from first (before.from first from);
    }

pub returns-in_err-mark_item-clause-kept : goal.returns-in_err-mark_item-clause-kept
returns-in_err-mark_item-clause-kept g c =
    g.met.S.BlockSource.kept_trans _ _ _ (g.met.S.BlockSource.kept_trans _ _ _ c.loop-marker.invariant.kept c.advance.ensures.kept) c.mark_item.ensures.kept

pub returns-in_err-mark_item-clause-mark : goal.returns-in_err-mark_item-clause-mark
returns-in_err-mark_item-clause-mark g c = λ tells image is all are reads.
    let before = c.loop-marker.invariant in
    let kept = g.met.S.BlockSource.kept_trans _ _ _ before.kept c.advance.ensures.kept in
    let same = g.met.S.BlockSource.kept_blocks c.args.src.now c.loop-marker.src tells before.kept ∙ is in
    let next = g.met.S.BlockSource.kept_blocks c.args.src.now c.advance.new.src tells kept ∙ is in
    let told = before.told tells image is all are reads in
    let came = rw c.if-branch.true at (c.in_ok-advance.ensures.comes tells image same told.0 all told.1) in
    let later : List ReiserItem = items_of c.advance.new.self.key (items_ahead image c.args.leaves.now c.advance.new.self) in
    let inside = next_inside (g.S.BlockSource.size c.args.src.now) all told.0 came.0 later are came.1.whole in
    let here = subst (λ (n : ℕ). are_inside came.0.head.kind came.0.body n ≡ true) (sym (g.met.S.BlockSource.kept_size c.args.src.now c.advance.new.src kept)) inside in
    let fault = c.in_err-mark_item.ensures.given tells image next told.0 came.0 came.2 (next_follows (g.S.BlockSource.size c.args.src.now) all told.0 came.0 later are came.1.whole) here told.2 in
    let err = err_from_is_err_and c.from_residual-in_err-mark_item.result c.from_residual-in_err-mark_item.ensures.1 in
    rw err.1 (subst IsFault (sym err.2) fault)

pub returns-clause-mark : goal.returns-clause-mark
returns-clause-mark g c = λ tells image is all are reads.
    let same = g.met.S.BlockSource.kept_blocks c.args.src.now c.loop-marker.src tells c.loop-marker.invariant.kept ∙ is in
    let told = c.loop-marker.invariant.told tells image is all are reads in
    let over = rw c.if-branch.false at (c.in_ok-advance.ensures.comes tells image same told.0 all told.1) in
    c.finish.ensures image told.0 told.2
    ∙ (ap (λ (xs : List ReiserItem). mark_of_bytes (file_bytes image xs c.loop-marker.marker.file.size)) over ∙ ap (λ (n : ℕ). mark_of_bytes (file_bytes image all n)) c.loop-marker.invariant.size)

pub returns-in_err-advance-clause-names : goal.returns-in_err-advance-clause-names
returns-in_err-advance-clause-names g c = λ first from.
    let named = c.in_err-advance.ensures.names first (c.loop-marker.invariant.from first from) in
    let err = err_from_is_err_and c.from_residual.result c.from_residual.ensures.1 in
    rw err.1 (subst (NamesLeaf first c.args.leaves.now) (sym err.2) named)

pub returns-in_err-mark_item-clause-names : goal.returns-in_err-mark_item-clause-names
returns-in_err-mark_item-clause-names g c = λ first from.
    let named = c.in_err-mark_item.ensures.names first c.args.leaves.now (c.in_ok-advance.ensures.from first (c.loop-marker.invariant.from first from)) in
    let err = err_from_is_err_and c.from_residual-in_err-mark_item.result c.from_residual-in_err-mark_item.ensures.1 in
    rw err.1 (subst (NamesLeaf first c.args.leaves.now) (sym err.2) named)
