use Rattle.btr_check_sums.proofs.Imports.{◌≡◌, ◌++◌, ◌∷◌, [], ℕ, List, map, refl, sym, ap, subst, ◌∙◌, err_from_is_err_and, walk_refusals, walked_items, Key, TreeItem, bare_item, LieOn, found, wrong, Tree, SumKind, Image, BreaksTrees, TellsPart, All, MatchResult, AreSumsRight, HoldsDue, IsReady, IsRight, IsWrongDue, DueSum}
use Rattle.btr_reader_walk.proofs.Walking.{given_first}
use Rattle.btr_check_sums.proofs.Data.{BreaksData, all_due, breaks_with, data_done, due_with, first_told, tree_told}
use Rattle.btr_check_sums.proofs.tree_data.judge_data.Goals as goal

pub loop-walker-init : goal.loop-walker-init
loop-walker-init g c = record {
  kept = g.met.S.BlockSource.kept_refl c.args.src.now;
  same = refl;
  tree = c.in_ok-walker.ensures.tree;
  fresh = c.in_ok-walker.ensures.fresh;
  kind = c.in_ok-pass.ensures.kind;
  ready = c.in_ok-pass.ensures.ready _ _;
  walks = λ tells. ([], c.in_ok-walker.ensures.walks _ _, c.in_ok-pass.ensures.holds _ _);
}

pub go_on-requires-clause-inside : goal.go_on-requires-clause-inside
go_on-requires-clause-inside g c = subst (λ (n : ℕ). LieOn n c.args.ranges.now) (sym (g.met.S.BlockSource.kept_size c.args.src.now c.loop-walker.src c.loop-walker.invariant.kept)) c.requires.inside

pub loop-walker-preserved : goal.loop-walker-preserved
loop-walker-preserved g c =
    let before = c.loop-walker.invariant in
    let kept = g.met.S.BlockSource.kept_trans _ _ _ before.kept c.go_on.ensures.kept in
    record {
      kept = g.met.S.BlockSource.kept_trans _ _ _ kept c.note_item.ensures.kept;
      same = c.in_ok-note_item.ensures.cause.kept (λ e. absurd cc) ∙ (c.in_ok-go_on.ensures.cause.kept (λ e. absurd cc) ∙ before.same);
      tree = c.go_on.ensures.tree ∙ before.tree;
      fresh = c.in_ok-go_on.ensures.fresh;
      kind = c.note_item.ensures.kind ∙ before.kind;
      ready = subst (λ (n : ℕ). IsReady n c.args.ranges.now c.note_item.new.self) (g.met.S.BlockSource.kept_size c.args.src.now c.go_on.new.src kept) c.in_ok-note_item.ensures.ready;
      walks = λ tells.
          let here : Image = g.S.BlockSource.blocks c.args.src.now in
          let told = before.walks tells in
          let same = g.met.S.BlockSource.kept_blocks c.args.src.now c.loop-walker.src tells before.kept in
          let after = g.met.S.BlockSource.kept_blocks c.args.src.now c.go_on.new.src tells kept in
          let came = rw c.if-branch.true at (c.in_ok-go_on.ensures.comes tells here same told.0 told.1) in
          let i : TreeItem = came.0 in
          let due = subst (λ (k : SumKind). HoldsDue here c.args.ranges.now k (map bare_item told.0) c.loop-walker.pass.due.items) (sym before.kind) told.2 in (
            told.0 ++ i ∷ [],
            came.1,
            due_with here c.args.ranges.now c.args.tree.form.sums c.loop-walker.pass.kind told.0 i c.body.result.now c.note_item.new.self.due.items before.kind (c.body.ensures i came.2)
                (c.in_ok-note_item.ensures.holds tells here after (map bare_item told.0) i.key (ap (λ (k : Key). k.offset) (sym (c.key.ensures i came.2))) due),
          );
    }

pub returns-in_err-go_on-clause-right : goal.returns-in_err-go_on-clause-right
returns-in_err-go_on-clause-right g c = λ tells image is own.
    let here : Image = g.S.BlockSource.blocks c.args.src.now in
    let before = c.loop-walker.invariant in
    let told = before.walks tells in
    let same = g.met.S.BlockSource.kept_blocks c.args.src.now c.loop-walker.src tells before.kept in
    let wrongs = subst (λ (t : Tree). TellsPart (BreaksTrees (wrong here c.args.ranges.now t)) c.in_err-go_on.field-0.0) before.tree (c.in_err-go_on.ensures.comes tells here same told.0 told.1) in
    let err = err_from_is_err_and c.from_residual-in_err-go_on.result c.from_residual-in_err-go_on.ensures.1 in
    rw err.1 (subst (λ (m : Image). TellsPart (BreaksData (walk_refusals m c.args.ranges.now c.args.tree) m c.args.ranges.now c.args.tree.form.sums (map bare_item (walked_items m c.args.ranges.now c.args.tree))) err.0) is
    (subst (TellsPart (BreaksData (walk_refusals here c.args.ranges.now c.args.tree) here c.args.ranges.now c.args.tree.form.sums (map bare_item (walked_items here c.args.ranges.now c.args.tree)))) (sym err.2)
    (tree_told here c.args.ranges.now c.args.tree own c.in_err-go_on.field-0.0 wrongs)))

pub returns-in_err-note_item-clause-right : goal.returns-in_err-note_item-clause-right
returns-in_err-note_item-clause-right g c = λ tells image is own.
    let here : Image = g.S.BlockSource.blocks c.args.src.now in
    let before = c.loop-walker.invariant in
    let kept = g.met.S.BlockSource.kept_trans _ _ _ before.kept c.go_on.ensures.kept in
    let told = before.walks tells in
    let same = g.met.S.BlockSource.kept_blocks c.args.src.now c.loop-walker.src tells before.kept in
    let after = g.met.S.BlockSource.kept_blocks c.args.src.now c.go_on.new.src tells kept in
    let came = rw c.if-branch.true at (c.in_ok-go_on.ensures.comes tells here same told.0 told.1) in
    let i : TreeItem = came.0 in
    let due = subst (λ (k : SumKind). HoldsDue here c.args.ranges.now k (map bare_item told.0) c.loop-walker.pass.due.items) (sym before.kind) told.2 in
    let breaks = breaks_with here c.args.ranges.now c.args.tree.form.sums c.loop-walker.pass.kind told.0 i c.body.result.now c.in_err-note_item.field-0.0 before.kind (c.body.ensures i came.2)
    (c.in_err-note_item.ensures.holds tells here after (map bare_item told.0) i.key (ap (λ (k : Key). k.offset) (sym (c.key.ensures i came.2))) due) in
    let first = given_first c.go_on.new.walker here c.args.ranges.now (told.0 ++ i ∷ []) came.1 in
    let tree = c.go_on.ensures.tree ∙ before.tree in
    let err = err_from_is_err_and c.from_residual-in_err-note_item.result c.from_residual-in_err-note_item.ensures.1 in
    rw err.1 (subst (λ (m : Image). TellsPart (BreaksData (walk_refusals m c.args.ranges.now c.args.tree) m c.args.ranges.now c.args.tree.form.sums (map bare_item (walked_items m c.args.ranges.now c.args.tree))) err.0) is
    (subst (TellsPart (BreaksData (walk_refusals here c.args.ranges.now c.args.tree) here c.args.ranges.now c.args.tree.form.sums (map bare_item (walked_items here c.args.ranges.now c.args.tree)))) (sym err.2)
    (first_told here c.args.ranges.now c.args.tree own (told.0 ++ i ∷ []) first.0 c.in_err-note_item.field-0.0 (ap (λ (t : Tree). found here c.args.ranges.now t) (sym tree) ∙ first.1) breaks)))

pub note_item-requires : goal.note_item-requires
note_item-requires g c =
    let kept = g.met.S.BlockSource.kept_trans _ _ _ c.loop-walker.invariant.kept c.go_on.ensures.kept in
    let size = sym (g.met.S.BlockSource.kept_size c.args.src.now c.go_on.new.src kept) in
    record {
      lying = subst (λ (n : ℕ). LieOn n c.args.ranges.now) size c.requires.inside;
      ready = subst (λ (n : ℕ). IsReady n c.args.ranges.now c.loop-walker.pass) size c.loop-walker.invariant.ready;
    }

pub returns-clause-right : goal.returns-clause-right
returns-clause-right g c = λ tells image is own.
    let here : Image = g.S.BlockSource.blocks c.args.src.now in
    let sums : SumKind = c.args.tree.form.sums in
    let before = c.loop-walker.invariant in
    let kept = g.met.S.BlockSource.kept_trans _ _ _ before.kept c.go_on.ensures.kept in
    let told = before.walks tells in
    let same = g.met.S.BlockSource.kept_blocks c.args.src.now c.loop-walker.src tells before.kept in
    let after = g.met.S.BlockSource.kept_blocks c.args.src.now c.go_on.new.src tells kept in
    let came = rw c.if-branch.false at (c.in_ok-go_on.ensures.comes tells here same told.0 told.1) in
    let due : List DueSum = c.loop-walker.pass.due.items in
    let given = subst (λ (t : Tree). told.0 ≡ found here c.args.ranges.now t) before.tree came.1.all in
    let all = all_due here c.args.ranges.now c.args.tree own told.0 due given told.2 in
    let right = subst (λ (k : SumKind). MatchResult c.judge.result (λ _. All (IsRight here k) due) (TellsPart (IsWrongDue here k due))) before.kind (c.judge.ensures.right tells here after) in
    subst (λ (m : Image). MatchResult c.judge.result (λ _. AreSumsRight m c.args.ranges.now sums (map bare_item (walked_items m c.args.ranges.now c.args.tree)))
    (TellsPart (BreaksData (walk_refusals m c.args.ranges.now c.args.tree) m c.args.ranges.now sums (map bare_item (walked_items m c.args.ranges.now c.args.tree))))) is
    (data_done here c.args.ranges.now sums (walk_refusals here c.args.ranges.now c.args.tree) (map bare_item (walked_items here c.args.ranges.now c.args.tree)) due c.judge.result all right)
