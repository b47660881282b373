use Rattle.btr_reader.proofs.Imports.{◌≡◌, ℕ, List, [], ◌∷◌, ◌++◌, refl, sym, ◌∙◌, ap, subst, err_from_is_err_and, Image, BtrRefusal, MapRange, Tree, TreeItem, Blames, LieOn, wrong, found, none_both, blames_among, given_first, ChunkAt, items_refusals, with_items, IsAmong}
use Rattle.btr_reader.proofs.Adding.{item_added, item_right, item_refused}
use Rattle.btr_reader.proofs.Among.{among_left, among_right}
use Rattle.btr_reader.proofs.chunk_tree.read_chunks.Goals as goal

-- what is wrong with the chunk tree and its items
abbrev all_wrong : Image → ℕ → List ChunkAt → List MapRange → Tree → List BtrRefusal
all_wrong image device chunks boot tree = wrong image boot tree ++ items_refusals device chunks boot (found image boot tree)

pub loop-walker-init : goal.loop-walker-init
loop-walker-init g c = record {
  kept = g.met.S.BlockSource.kept_refl c.args.src.now;
  same = refl;
  tree = c.in_ok-walker.ensures.tree;
  fresh = c.in_ok-walker.ensures.fresh;
  inside = subst (LieOn c.args.device) (sym c.in_ok-ranges.ensures) c.requires.inside;
  walks = λ tells. ([], c.in_ok-walker.ensures.walks _ _, c.in_ok-ranges.ensures, refl);
}

pub returns-in_err-advance-clause-err : goal.returns-in_err-advance-clause-err
returns-in_err-advance-clause-err g c = λ tells image is.
    let told = c.loop-walker.invariant.walks tells in
    let here : Image = g.S.BlockSource.blocks c.args.src.now in
    let chunks : List ChunkAt = c.args.boot.now in
    let boot : List MapRange = c.args.first.now in
    let same = g.met.S.BlockSource.kept_blocks c.args.src.now c.loop-walker.src tells c.loop-walker.invariant.kept in
    let blames = c.in_err-advance.ensures.comes tells here same told.0 told.1 in
    let err = err_from_is_err_and c.from_residual-in_err-advance.result c.from_residual-in_err-advance.ensures.1 in
    rw err.1 (subst (λ (m : Image). IsAmong (all_wrong m c.args.device chunks boot c.args.tree) err.0) is
    (subst (IsAmong (all_wrong here c.args.device chunks boot c.args.tree)) (sym err.2)
    (among_left (wrong here boot c.args.tree) _ c.in_err-advance.field-0.0
    (blames_among (wrong here boot c.args.tree) c.in_err-advance.field-0.0
    (subst (λ (tree : Tree). Blames (wrong here boot tree) c.in_err-advance.field-0.0) c.loop-walker.invariant.tree blames)))))

pub loop-walker-preserved : goal.loop-walker-preserved
loop-walker-preserved g c =
    let before = c.loop-walker.invariant in
    let chunks : List ChunkAt = c.args.boot.now in
    let boot : List MapRange = c.args.first.now in
    record {
      kept = g.met.S.BlockSource.kept_trans _ _ _ before.kept c.advance.ensures.kept;
      same = c.in_ok-advance.ensures.cause.kept (λ e. absurd cc) ∙ before.same;
      tree = c.advance.ensures.tree ∙ before.tree;
      fresh = c.in_ok-advance.ensures.spent;
      inside = c.in_ok-add_item.ensures.inside;
      walks = λ tells.
          let told = before.walks tells in
          let same = g.met.S.BlockSource.kept_blocks c.args.src.now c.loop-walker.src tells before.kept in
          let came = rw c.if-branch.true at (c.in_ok-advance.ensures.comes tells (g.S.BlockSource.blocks c.args.src.now) same told.0 told.1) in
          let i : TreeItem = came.0 in
          let key = c.key.ensures i came.2 in
          let body = c.body.ensures i came.2 in (
            told.0 ++ i ∷ [],
            came.1,
            item_added chunks boot c.loop-walker.ranges.items c.add_item.new.ranges.items told.0 i c.key.result c.body.result.now key body told.2 c.in_ok-add_item.ensures.added,
            item_right c.args.device chunks boot c.loop-walker.ranges.items told.0 i c.key.result c.body.result.now key body told.2 told.3 c.in_ok-add_item.ensures.ok,
          );
    }

pub returns-in_err-add_item-clause-err : goal.returns-in_err-add_item-clause-err
returns-in_err-add_item-clause-err g c = λ tells image is.
    let before = c.loop-walker.invariant in
    let here : Image = g.S.BlockSource.blocks c.args.src.now in
    let chunks : List ChunkAt = c.args.boot.now in
    let boot : List MapRange = c.args.first.now in
    let told = before.walks tells in
    let same = g.met.S.BlockSource.kept_blocks c.args.src.now c.loop-walker.src tells before.kept in
    let came = rw c.if-branch.true at (c.in_ok-advance.ensures.comes tells here same told.0 told.1) in
    let i : TreeItem = came.0 in
    let first = given_first c.advance.new.self here boot (told.0 ++ i ∷ []) came.1 in
    let tree = c.advance.ensures.tree ∙ before.tree in
    let err = err_from_is_err_and c.from_residual-in_err-add_item.result c.from_residual-in_err-add_item.ensures.1 in
    rw err.1 (subst (λ (m : Image). IsAmong (all_wrong m c.args.device chunks boot c.args.tree) err.0) is
    (subst (IsAmong (all_wrong here c.args.device chunks boot c.args.tree)) (sym err.2)
    (among_right (wrong here boot c.args.tree) _ c.in_err-add_item.field-0.0
    (item_refused c.args.device chunks boot c.loop-walker.ranges.items (found here boot c.args.tree) told.0 first.0 i c.key.result c.body.result.now c.in_err-add_item.field-0.0
    (c.key.ensures i came.2) (c.body.ensures i came.2) told.2 (ap (λ (t : Tree). found here boot t) (sym tree) ∙ first.1) c.in_err-add_item.ensures.err))))

pub returns-in_err-add_item-clause-kept : goal.returns-in_err-add_item-clause-kept
returns-in_err-add_item-clause-kept g c = g.met.S.BlockSource.kept_trans _ _ _ c.loop-walker.invariant.kept c.advance.ensures.kept

pub returns-clause-ok : goal.returns-clause-ok
returns-clause-ok g c = λ tells image is.
    let before = c.loop-walker.invariant in
    let here : Image = g.S.BlockSource.blocks c.args.src.now in
    let chunks : List ChunkAt = c.args.boot.now in
    let boot : List MapRange = c.args.first.now in
    let told = before.walks tells in
    let same = g.met.S.BlockSource.kept_blocks c.args.src.now c.loop-walker.src tells before.kept in
    let end = rw c.if-branch.false at (c.in_ok-advance.ensures.comes tells here same told.0 told.1) in
    let all : told.0 ≡ found here boot c.args.tree = end.1.all ∙ ap (λ (t : Tree). found here boot t) before.tree in
    subst (λ (m : Image). all_wrong m c.args.device chunks boot c.args.tree ≡ []) is
    (none_both (wrong here boot c.args.tree) _
    (subst (λ (tree : Tree). wrong here boot tree ≡ []) before.tree end.1.sound)
    (ap (items_refusals c.args.device chunks boot) (sym all) ∙ told.3))

pub returns-clause-map : goal.returns-clause-map
returns-clause-map g c = λ tells image is.
    let before = c.loop-walker.invariant in
    let here : Image = g.S.BlockSource.blocks c.args.src.now in
    let chunks : List ChunkAt = c.args.boot.now in
    let boot : List MapRange = c.args.first.now in
    let told = before.walks tells in
    let same = g.met.S.BlockSource.kept_blocks c.args.src.now c.loop-walker.src tells before.kept in
    let end = rw c.if-branch.false at (c.in_ok-advance.ensures.comes tells here same told.0 told.1) in
    let all : told.0 ≡ found here boot c.args.tree = end.1.all ∙ ap (λ (t : Tree). found here boot t) before.tree in
    told.2 ∙ (ap (with_items chunks boot) all ∙ ap (λ (m : Image). with_items chunks boot (found m boot c.args.tree)) is)
