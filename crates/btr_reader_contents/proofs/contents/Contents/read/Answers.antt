use Rattle.btr_reader_contents.proofs.Imports.{◌≡◌, ℕ, List, [], ◌∷◌, ◌++◌, Option, nat_eq, sym, ◌∙◌, ap, subst, refl, err_from_is_err_and, Image, get, contains, same_node, MapRange, Tree, TreeItem, Blames, LieOn, found, wrong, HasNotedNames, Wanted, wanted_at, HasContents, RefusesContents, HasGathered, last_inode}
use Rattle.btr_reader_walk.proofs.Walking.{given_first}
use Rattle.btr_reader_contents.proofs.Gathered.{refuses_all, refuses_tree}
use Rattle.btr_reader_contents.proofs.Orders.{next_inode, now_last}
use Rattle.btr_reader_contents.proofs.contents.Contents.read.Goals as goal

pub loop-walker-init : goal.loop-walker-init
loop-walker-init g c = record {
  kept = g.met.S.BlockSource.kept_refl c.args.src.now;
  same = refl;
  tree = c.in_ok-walker.ensures.tree;
  fresh = c.in_ok-walker.ensures.fresh;
  walks = λ tells blocks noted. ([], c.in_ok-walker.ensures.walks _ _, c.new-gathering.ensures _ _ _);
}

pub returns-in_err-advance-clause-refused : goal.returns-in_err-advance-clause-refused
returns-in_err-advance-clause-refused g c = λ tells image is blocks noted.
    let here : Image = g.S.BlockSource.blocks c.args.src.now in
    let ranges : List MapRange = c.args.ranges.now in
    let told = c.loop-walker.invariant.walks tells blocks (subst (λ (m : Image). HasNotedNames c.args.names.now (found m ranges c.args.tree)) (sym is) noted) in
    let same = g.met.S.BlockSource.kept_blocks c.args.src.now c.loop-walker.src tells c.loop-walker.invariant.kept in
    let blames = c.in_err-advance.ensures.comes tells here same told.0 told.1 in
    let err = err_from_is_err_and c.from_residual-in_err-advance.result c.from_residual-in_err-advance.ensures.1 in
    rw err.1 (subst (λ (m : Image). RefusesContents (wanted_at (contains same_node c.args.named.now) (found m ranges c.args.tree)) m ranges c.args.tree err.0) is
    (subst (RefusesContents (wanted_at (contains same_node c.args.named.now) (found here ranges c.args.tree)) here ranges c.args.tree) (sym err.2)
    (refuses_tree (wanted_at (contains same_node c.args.named.now) (found here ranges c.args.tree)) here ranges c.args.tree c.in_err-advance.field-0.0
    (subst (λ (tree : Tree). Blames (wrong here ranges tree) c.in_err-advance.field-0.0) c.loop-walker.invariant.tree blames))))

pub loop-walker-preserved : goal.loop-walker-preserved
loop-walker-preserved g c =
    let before = c.loop-walker.invariant in
    record {
      kept = g.met.S.BlockSource.kept_trans _ _ _ (g.met.S.BlockSource.kept_trans _ _ _ before.kept c.advance.ensures.kept) c.add_item.ensures.kept;
      same = c.in_ok-add_item.ensures.cause.kept (λ e. absurd cc) ∙ (c.in_ok-advance.ensures.cause.kept (λ e. absurd cc) ∙ before.same);
      tree = c.advance.ensures.tree ∙ before.tree;
      fresh = c.in_ok-advance.ensures.spent;
      walks = λ tells blocks noted.
          let here : Image = g.S.BlockSource.blocks c.args.src.now in
          let ranges : List MapRange = c.args.ranges.now in
          let told = before.walks tells blocks noted in
          let same = g.met.S.BlockSource.kept_blocks c.args.src.now c.loop-walker.src tells before.kept in
          let after = g.met.S.BlockSource.kept_blocks c.args.src.now c.advance.new.src tells (g.met.S.BlockSource.kept_trans _ _ _ before.kept c.advance.ensures.kept) in
          let came = rw c.if-branch.true at (c.in_ok-advance.ensures.comes tells here same told.0 told.1) in
          let i : TreeItem = came.0 in
          let key = sym (c.key-key.ensures i came.2) in
          let wanted = c.item_wanted-wanted.ensures.wanted (found here ranges c.args.tree) noted in
          let le = next_inode c.advance.new.self here ranges told.0 i came.1 in (
            told.0 ++ i ∷ [],
            came.1,
            subst (λ (n : ℕ). HasGathered (wanted_at (contains same_node c.args.named.now) (found here ranges c.args.tree)) here ranges (told.0 ++ i ∷ []) n (λ ino. get nat_eq c.add_item.new.self.done ino) c.add_item.new.self.hand) (sym (now_last told.0 i))
                (c.in_ok-add_item.ensures.adds tells here after blocks _ told.0 i (last_inode told.0) key (sym (c.body.ensures i came.2)) (sym (c.leaf.ensures i came.2)) (rw (sym key) at wanted) le told.2),
          );
    }

pub returns-in_err-add_item-clause-refused : goal.returns-in_err-add_item-clause-refused
returns-in_err-add_item-clause-refused g c = λ tells image is blocks noted.
    let before = c.loop-walker.invariant in
    let here : Image = g.S.BlockSource.blocks c.args.src.now in
    let ranges : List MapRange = c.args.ranges.now in
    let whole = subst (λ (m : Image). HasNotedNames c.args.names.now (found m ranges c.args.tree)) (sym is) noted in
    let told = before.walks tells blocks whole in
    let same = g.met.S.BlockSource.kept_blocks c.args.src.now c.loop-walker.src tells before.kept in
    let after = g.met.S.BlockSource.kept_blocks c.args.src.now c.advance.new.src tells (g.met.S.BlockSource.kept_trans _ _ _ before.kept c.advance.ensures.kept) in
    let came = rw c.if-branch.true at (c.in_ok-advance.ensures.comes tells here same told.0 told.1) in
    let i : TreeItem = came.0 in
    let key = sym (c.key-key.ensures i came.2) in
    let wanted = c.item_wanted-wanted.ensures.wanted (found here ranges c.args.tree) whole in
    let le = next_inode c.advance.new.self here ranges told.0 i came.1 in
    let first = given_first c.advance.new.self here ranges (told.0 ++ i ∷ []) came.1 in
    let tree = c.advance.ensures.tree ∙ before.tree in
    let plan : ℕ → Option Wanted = wanted_at (contains same_node c.args.named.now) (found here ranges c.args.tree) in
    let err = err_from_is_err_and c.from_residual-in_err-add_item.result c.from_residual-in_err-add_item.ensures.1 in
    rw err.1 (subst (λ (m : Image). RefusesContents (wanted_at (contains same_node c.args.named.now) (found m ranges c.args.tree)) m ranges c.args.tree err.0) is
    (subst (RefusesContents plan here ranges c.args.tree) (sym err.2)
    (refuses_all plan here ranges c.args.tree (told.0 ++ i ∷ []) first.0 c.in_err-add_item.field-0.0 (ap (λ (t : Tree). found here ranges t) (sym tree) ∙ first.1)
    (c.in_err-add_item.ensures.adds tells here after blocks plan told.0 i (last_inode told.0) key (sym (c.body.ensures i came.2)) (sym (c.leaf.ensures i came.2)) (rw (sym key) at wanted) le told.2))))

pub returns-clause-contents : goal.returns-clause-contents
returns-clause-contents g c = λ tells image is blocks noted.
    let before = c.loop-walker.invariant in
    let here : Image = g.S.BlockSource.blocks c.args.src.now in
    let ranges : List MapRange = c.args.ranges.now in
    let told = before.walks tells blocks (subst (λ (m : Image). HasNotedNames c.args.names.now (found m ranges c.args.tree)) (sym is) noted) in
    let same = g.met.S.BlockSource.kept_blocks c.args.src.now c.loop-walker.src tells before.kept in
    let end = rw c.if-branch.false at (c.in_ok-advance.ensures.comes tells here same told.0 told.1) in
    let all : told.0 ≡ found here ranges c.args.tree = end.1.all ∙ ap (λ (t : Tree). found here ranges t) before.tree in
    subst (λ (m : Image). HasContents (wanted_at (contains same_node c.args.named.now) (found m ranges c.args.tree)) m ranges (found m ranges c.args.tree) (λ ino. get nat_eq c.in_ok-known.known ino)) is
    (subst (λ (items : List TreeItem). HasContents (wanted_at (contains same_node c.args.named.now) (found here ranges c.args.tree)) here ranges items (λ ino. get nat_eq c.in_ok-known.known ino)) all
    (c.in_ok-known.ensures (wanted_at (contains same_node c.args.named.now) (found here ranges c.args.tree)) here ranges told.0 (last_inode told.0) told.2))

pub returns-in_err-advance-clause-kept : goal.returns-in_err-advance-clause-kept
returns-in_err-advance-clause-kept g c = g.met.S.BlockSource.kept_trans _ _ _ c.loop-walker.invariant.kept c.advance.ensures.kept

pub add_item-requires-clause-inside : goal.add_item-requires-clause-inside
add_item-requires-clause-inside g c =
    let kept = g.met.S.BlockSource.kept_trans _ _ _ c.loop-walker.invariant.kept c.advance.ensures.kept in
    subst (λ (n : ℕ). LieOn n c.args.ranges.now) (sym (g.met.S.BlockSource.kept_size c.args.src.now c.advance.new.src kept)) c.requires.inside

pub returns-in_err-add_item-clause-kept : goal.returns-in_err-add_item-clause-kept
returns-in_err-add_item-clause-kept g c = g.met.S.BlockSource.kept_trans _ _ _ (g.met.S.BlockSource.kept_trans _ _ _ c.loop-walker.invariant.kept c.advance.ensures.kept) c.add_item.ensures.kept

pub returns-clause-kept : goal.returns-clause-kept
returns-clause-kept g c = g.met.S.BlockSource.kept_trans _ _ _ c.loop-walker.invariant.kept c.advance.ensures.kept
