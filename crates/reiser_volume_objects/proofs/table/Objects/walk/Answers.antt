use Rattle.reiser_volume_objects.proofs.Imports.{◌≡◌, ◌++◌, ◌∷◌, [], List, length, sym, ap, subst, ◌∙◌, arith, err_from_is_err_and, Image, VolAnswer, ReiserTree, ReiserItem, tree_damages, standing, tree_at, BlamesTree, HasNoted}
use Rattle.reiser_walk.specs.Tree.{items_of_tree}
use Rattle.reiser_volume_objects.proofs.Reading.{noted_next, blames_tree}
use Rattle.reiser_volume_objects.proofs.table.Objects.walk.Goals as goal

pub returns-in_err-advance-clause-kept : goal.returns-in_err-advance-clause-kept
returns-in_err-advance-clause-kept g c = g.met.S.BlockSource.kept_trans _ _ _ c.loop-objects.invariant.kept c.advance.ensures.kept

pub returns-in_err-note-clause-kept : goal.returns-in_err-note-clause-kept
returns-in_err-note-clause-kept g c = g.met.S.BlockSource.kept_trans _ _ _ c.loop-objects.invariant.kept c.advance.ensures.kept

pub returns-in_err-advance-clause-damage : goal.returns-in_err-advance-clause-damage
returns-in_err-advance-clause-damage g c = λ tells image blocks.
    let told = c.loop-objects.invariant.walks tells in
    let same = g.met.S.BlockSource.kept_blocks c.args.src.now c.loop-objects.src tells c.loop-objects.invariant.kept in
    let blames = c.in_err-advance.ensures.comes tells (g.S.BlockSource.blocks c.args.src.now) same told.0 told.1 in
    let err = err_from_is_err_and c.from_residual-in_err-advance.result c.from_residual-in_err-advance.ensures.1 in
    rw err.1
    (subst (λ (e : VolAnswer). BlamesTree (tree_at c.args.root c.args.height c.args.journal_first c.args.journal_size) image c.args.map.now e) (sym err.2)
    (subst (λ (i : Image). BlamesTree (tree_at c.args.root c.args.height c.args.journal_first c.args.journal_size) i c.args.map.now c.in_err-advance.field-0.0) blocks
    (subst (λ (t : ReiserTree). BlamesTree t (g.S.BlockSource.blocks c.args.src.now) c.args.map.now c.in_err-advance.field-0.0) c.loop-objects.invariant.tree (blames_tree _ _ _ _ blames))))

pub loop-objects-preserved : goal.loop-objects-preserved
loop-objects-preserved g c =
    let before = c.loop-objects.invariant in
    record {
      kept = g.met.S.BlockSource.kept_trans _ _ _ before.kept c.advance.ensures.kept;
      same = c.in_ok-advance.ensures.cause.kept (λ e. absurd cc) ∙ before.same;
      tree = c.advance.ensures.tree ∙ before.tree;
      size = c.advance.ensures.size ∙ before.size;
      unspent = c.in_ok-advance.ensures.unspent;
      walks = λ tells.
          let told = before.walks tells in
          let same = g.met.S.BlockSource.kept_blocks c.args.src.now c.loop-objects.src tells before.kept in
          let came = rw c.if-branch.true at (c.in_ok-advance.ensures.comes tells (g.S.BlockSource.blocks c.args.src.now) same told.0 told.1) in (
            told.0 ++ came.0 ∷ [],
            came.1,
            noted_next c.advance.new.self (g.S.BlockSource.blocks c.args.src.now) c.args.map.now told.0 came.0 (standing c.advance.new.self) c.leaf.result c.head.result c.body.result.now c.loop-objects.objects c.note.new.self
                came.1 came.2 c.leaf.ensures c.head.ensures c.body.ensures told.2 c.in_ok-note.ensures,
          );
    }

pub returns-clause-noted : goal.returns-clause-noted
returns-clause-noted g c = λ tells image blocks.
    let told = c.loop-objects.invariant.walks tells in
    let same = g.met.S.BlockSource.kept_blocks c.args.src.now c.loop-objects.src tells c.loop-objects.invariant.kept in
    let end = rw c.if-branch.false at (c.in_ok-advance.ensures.comes tells (g.S.BlockSource.blocks c.args.src.now) same told.0 told.1) in
    subst (λ (items : List ReiserItem). HasNoted c.loop-objects.objects items)
    (end.1.all ∙ (ap (λ (t : ReiserTree). items_of_tree t (g.S.BlockSource.blocks c.args.src.now) (length c.args.map.now)) c.loop-objects.invariant.tree ∙ ap (λ (i : Image). items_of_tree (tree_at c.args.root c.args.height c.args.journal_first c.args.journal_size) i (length c.args.map.now)) blocks))
    told.2

pub returns-clause-sound : goal.returns-clause-sound
returns-clause-sound g c = λ tells image blocks.
    let told = c.loop-objects.invariant.walks tells in
    let same = g.met.S.BlockSource.kept_blocks c.args.src.now c.loop-objects.src tells c.loop-objects.invariant.kept in
    let end = rw c.if-branch.false at (c.in_ok-advance.ensures.comes tells (g.S.BlockSource.blocks c.args.src.now) same told.0 told.1) in
    subst (λ (i : Image). tree_damages (tree_at c.args.root c.args.height c.args.journal_first c.args.journal_size) i c.args.map.now ≡ []) blocks
    (subst (λ (t : ReiserTree). tree_damages t (g.S.BlockSource.blocks c.args.src.now) c.args.map.now ≡ []) c.loop-objects.invariant.tree end.1.sound)
