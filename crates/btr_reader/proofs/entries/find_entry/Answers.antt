use Rattle.btr_reader.proofs.Imports.{◌≡◌, List, [], ◌∷◌, ◌++◌, refl, sym, ◌∙◌, ap, subst, err_from_is_err_and, Image, MapRange, Tree, TreeItem, Blames, found, wrong, none_both, blames_among, given_first, first_key, entry_named, is_called, is_root_directory, twice_refusals, index_refusals, root_refusals, entry_refusals, own_naming, dir_indexes, none_seen, IsAmong}
use Rattle.btr_reader.proofs.Among.{among_left, among_right}
use Rattle.btr_reader.proofs.EntryItems.{entry_push, index_right}
use Rattle.btr_reader.proofs.RootNames.{none_twice, root_refused}
use Rattle.btr_reader.proofs.entries.find_entry.Goals as goal

pub loop-walker-init : goal.loop-walker-init
loop-walker-init g c = record {
  kept = g.met.S.BlockSource.kept_refl c.args.src.now;
  same = refl;
  tree = c.in_ok-walker.ensures.tree;
  fresh = c.in_ok-walker.ensures.fresh;
  walks = λ tells. ([], c.in_ok-walker.ensures.walks _ _, refl, refl, none_seen is_root_directory c.new-seen.result c.new-seen.ensures.empty, c.requires.begun, c.requires.begun_others);
}

pub returns-in_err-advance-clause-err : goal.returns-in_err-advance-clause-err
returns-in_err-advance-clause-err g c = λ tells image is.
    let told = c.loop-walker.invariant.walks tells in
    let here : Image = g.S.BlockSource.blocks c.args.src.now in
    let ranges : List MapRange = c.args.ranges.now in
    let same = g.met.S.BlockSource.kept_blocks c.args.src.now c.loop-walker.src tells c.loop-walker.invariant.kept in
    let blames = c.in_err-advance.ensures.comes tells here same told.0 told.1 in
    let err = err_from_is_err_and c.from_residual-in_err-advance.result c.from_residual-in_err-advance.ensures.1 in
    rw err.1 (subst (λ (m : Image). IsAmong (entry_refusals m ranges c.args.tree) err.0) is
    (subst (IsAmong (entry_refusals here ranges c.args.tree)) (sym err.2)
    (among_left (wrong here ranges c.args.tree) _ c.in_err-advance.field-0.0
    (blames_among (wrong here ranges c.args.tree) c.in_err-advance.field-0.0
    (subst (λ (tree : Tree). Blames (wrong here ranges tree) c.in_err-advance.field-0.0) c.loop-walker.invariant.tree blames)))))

pub loop-walker-preserved : goal.loop-walker-preserved
loop-walker-preserved g c =
    let before = c.loop-walker.invariant in
    record {
      kept = g.met.S.BlockSource.kept_trans _ _ _ before.kept c.advance.ensures.kept;
      same = c.in_ok-advance.ensures.cause.kept (λ e. absurd cc) ∙ before.same;
      tree = c.advance.ensures.tree ∙ before.tree;
      fresh = c.in_ok-advance.ensures.spent;
      walks = λ tells.
          let told = before.walks tells in
          let same = g.met.S.BlockSource.kept_blocks c.args.src.now c.loop-walker.src tells before.kept in
          let came = rw c.if-branch.true at (c.in_ok-advance.ensures.comes tells (g.S.BlockSource.blocks c.args.src.now) same told.0 told.1) in
          let i : TreeItem = came.0 in
          let key = sym (c.key.ensures i came.2) in
          let body = sym (c.body.ensures i came.2) in
          let leaf = sym (c.leaf.ensures i came.2) in (
            told.0 ++ i ∷ [],
            came.1,
            c.in_ok-first.ensures.found i key body
                ∙ (ap (λ o. first_key o (entry_named (is_called c.args.name.now) (own_naming i))) told.2 ∙ sym (entry_push (is_called c.args.name.now) told.0 i)),
            index_right told.0 i told.3 (c.in_ok-first.ensures.ok i key body leaf),
            c.in_ok-first.ensures.seen i told.0 key body leaf told.4,
            c.in_ok-note.ensures c.args.notes.now told.0 i (sym (c.key-in-loop-walker.ensures i came.2)) (sym (c.body-in-loop-walker.ensures i came.2)) (sym (c.leaf-in-loop-walker.ensures i came.2)) told.5,
            c.in_ok-note-2.ensures c.args.others.now told.0 i (sym (c.key-in-loop-walker-2.ensures i came.2)) (sym (c.body-in-loop-walker-2.ensures i came.2)) (sym (c.leaf-in-loop-walker-2.ensures i came.2)) told.6,
          );
    }

pub returns-in_err-first-clause-err : goal.returns-in_err-first-clause-err
returns-in_err-first-clause-err g c = λ tells image is.
    let before = c.loop-walker.invariant in
    let here : Image = g.S.BlockSource.blocks c.args.src.now in
    let ranges : List MapRange = c.args.ranges.now in
    let told = before.walks tells in
    let same = g.met.S.BlockSource.kept_blocks c.args.src.now c.loop-walker.src tells before.kept in
    let came = rw c.if-branch.true at (c.in_ok-advance.ensures.comes tells here same told.0 told.1) in
    let i : TreeItem = came.0 in
    let first = given_first c.advance.new.self here ranges (told.0 ++ i ∷ []) came.1 in
    let tree = c.advance.ensures.tree ∙ before.tree in
    let bad = c.in_err-first.ensures.err i told.0 (sym (c.key.ensures i came.2)) (sym (c.body.ensures i came.2)) (sym (c.leaf.ensures i came.2)) told.4 in
    let err = err_from_is_err_and c.from_residual-in_err-first.result c.from_residual-in_err-first.ensures.1 in
    rw err.1 (subst (λ (m : Image). IsAmong (entry_refusals m ranges c.args.tree) err.0) is
    (subst (IsAmong (entry_refusals here ranges c.args.tree)) (sym err.2)
    (among_right (wrong here ranges c.args.tree) _ c.in_err-first.field-0.0
    (root_refused (found here ranges c.args.tree) told.0 first.0 i c.in_err-first.field-0.0 (ap (λ (t : Tree). found here ranges t) (sym tree) ∙ first.1) bad))))

pub returns-in_err-first-clause-kept : goal.returns-in_err-first-clause-kept
returns-in_err-first-clause-kept g c = g.met.S.BlockSource.kept_trans _ _ _ c.loop-walker.invariant.kept c.advance.ensures.kept

pub returns-clause-ok : goal.returns-clause-ok
returns-clause-ok g c = λ tells image is.
    let before = c.loop-walker.invariant in
    let here : Image = g.S.BlockSource.blocks c.args.src.now in
    let ranges : List MapRange = c.args.ranges.now in
    let told = before.walks tells in
    let same = g.met.S.BlockSource.kept_blocks c.args.src.now c.loop-walker.src tells before.kept in
    let end = rw c.if-branch.false at (c.in_ok-advance.ensures.comes tells here same told.0 told.1) in
    let all : told.0 ≡ found here ranges c.args.tree = end.1.all ∙ ap (λ (t : Tree). found here ranges t) before.tree in
    subst (λ (m : Image). entry_refusals m ranges c.args.tree ≡ []) is
    (none_both (wrong here ranges c.args.tree) _ (subst (λ (tree : Tree). wrong here ranges tree ≡ []) before.tree end.1.sound)
    (subst (λ (items : List TreeItem). root_refusals items ≡ []) all (none_both (index_refusals told.0) (twice_refusals (dir_indexes told.0)) told.3 (none_twice (dir_indexes told.0) told.4.once))))

pub returns-clause-entry : goal.returns-clause-entry
returns-clause-entry g c = λ tells image is.
    let before = c.loop-walker.invariant in
    let here : Image = g.S.BlockSource.blocks c.args.src.now in
    let ranges : List MapRange = c.args.ranges.now in
    let told = before.walks tells in
    let same = g.met.S.BlockSource.kept_blocks c.args.src.now c.loop-walker.src tells before.kept in
    let end = rw c.if-branch.false at (c.in_ok-advance.ensures.comes tells here same told.0 told.1) in
    let all : told.0 ≡ found here ranges c.args.tree = end.1.all ∙ ap (λ (t : Tree). found here ranges t) before.tree in
    told.2
    ∙ (ap (λ (items : List TreeItem). entry_named (is_called c.args.name.now) (dir_indexes items)) all
    ∙ ap (λ (m : Image). entry_named (is_called c.args.name.now) (dir_indexes (found m ranges c.args.tree))) is)

pub returns-in_err-note-clause-kept : goal.returns-in_err-note-clause-kept
returns-in_err-note-clause-kept g c = g.met.S.BlockSource.kept_trans _ _ _ c.loop-walker.invariant.kept c.advance.ensures.kept

pub returns-clause-noted : goal.returns-clause-noted
returns-clause-noted g c = λ tells image is.
    let before = c.loop-walker.invariant in
    let here : Image = g.S.BlockSource.blocks c.args.src.now in
    let ranges : List MapRange = c.args.ranges.now in
    let told = before.walks tells in
    let same = g.met.S.BlockSource.kept_blocks c.args.src.now c.loop-walker.src tells before.kept in
    let end = rw c.if-branch.false at (c.in_ok-advance.ensures.comes tells here same told.0 told.1) in
    let all : told.0 ≡ found here ranges c.args.tree = end.1.all ∙ ap (λ (t : Tree). found here ranges t) before.tree in
    subst (λ (m : Image). g.N.Notes.holds c.args.notes.now c.loop-walker.notes (found m ranges c.args.tree)) is (subst (g.N.Notes.holds c.args.notes.now c.loop-walker.notes) all told.5)

pub returns-clause-noted_others : goal.returns-clause-noted_others
returns-clause-noted_others g c = λ tells image is.
    let before = c.loop-walker.invariant in
    let here : Image = g.S.BlockSource.blocks c.args.src.now in
    let ranges : List MapRange = c.args.ranges.now in
    let told = before.walks tells in
    let same = g.met.S.BlockSource.kept_blocks c.args.src.now c.loop-walker.src tells before.kept in
    let end = rw c.if-branch.false at (c.in_ok-advance.ensures.comes tells here same told.0 told.1) in
    let all : told.0 ≡ found here ranges c.args.tree = end.1.all ∙ ap (λ (t : Tree). found here ranges t) before.tree in
    subst (λ (m : Image). g.M.Notes.holds c.args.others.now c.loop-walker.others (found m ranges c.args.tree)) is (subst (g.M.Notes.holds c.args.others.now c.loop-walker.others) all told.6)

pub returns-in_err-note-2-clause-kept : goal.returns-in_err-note-2-clause-kept
returns-in_err-note-2-clause-kept g c = g.met.S.BlockSource.kept_trans _ _ _ c.loop-walker.invariant.kept c.advance.ensures.kept
