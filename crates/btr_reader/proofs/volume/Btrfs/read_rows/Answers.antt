use Rattle.btr_reader.proofs.Imports.{◌≡◌, ℕ, nat_eq, List, [], Option, sym, subst, ap, ◌∙◌, err_from_is_err_and, FS_TREE, get, contains, same_node, MapRange, Tree, LieOn, found, wrong, AreInBlocks, has_root, Content, wanted_at, HasContents, IsChecked, RefusesChecked, RefusesTree, tree_of, roots_on}
use Rattle.btr_reader_names.specs.Table.{HasNotedNames}
use Rattle.btr_reader.proofs.Answered.{tree_refused, names_refused, contents_refused, rows_answered, here}
use Rattle.btr_reader.proofs.Bridging.{extents_sound}
use Rattle.btr_reader.proofs.volume.Btrfs.read_rows.Goals as goal

pub returns-in_err-names-clause-rows : goal.returns-in_err-names-clause-rows
returns-in_err-names-clause-rows g c = λ tells image is blocks right i p there at tree_is.
    let sup = c.args.self.now.sup in
    let ranges = c.args.self.now.ranges.items in
    let err = err_from_is_err_and c.from_residual.result c.from_residual.ensures.1 in
    rw err.1 (subst (RefusesTree image sup ranges) (sym err.2)
    (tree_refused image sup ranges i p there at c.as_slice-ranges.result.now c.args.tree c.as_slice-ranges.ensures.value tree_is _ (c.in_err-names.ensures.err tells image is)))

pub returns-in_err-named-clause-rows : goal.returns-in_err-named-clause-rows
returns-in_err-named-clause-rows g c = λ tells image is blocks right i p there at tree_is.
    let sup = c.args.self.now.sup in
    let ranges = c.args.self.now.ranges.items in
    let noted = here image sup ranges i p there at c.as_slice-ranges.result.now c.args.tree c.as_slice-ranges.ensures.value tree_is (λ r t. HasNotedNames c.in_ok-names.names (found image r t)) (c.in_ok-names.ensures.noted tells image is) in
    let refused = c.in_err-named.ensures.named image right (found image ranges (tree_of sup FS_TREE p)) noted in
    let err = err_from_is_err_and c.from_residual-in_err-named.result c.from_residual-in_err-named.ensures.1 in
    rw err.1 (subst (RefusesTree image sup ranges) (sym err.2)
    (names_refused image sup ranges i p there at c.in_err-named.field-0.0
    (subst (λ (root : ℕ). RefusesChecked (has_root (roots_on image sup ranges)) (found image ranges (tree_of sup FS_TREE p)) root c.in_err-named.field-0.0) (ap (λ (t : Tree). t.root.address) tree_is) refused)))

pub read-requires-2-clause-inside : goal.read-requires-2-clause-inside
read-requires-2-clause-inside g c =
    let size = g.met.S.BlockSource.kept_size c.args.src.now c.read.new.src c.read.ensures.kept in
    subst (λ (n : ℕ). LieOn n c.as_slice-ranges.result.now) (sym size) (subst (λ (r : List MapRange). LieOn (g.S.BlockSource.size c.args.src.now) r) (sym c.as_slice-ranges.ensures.value) c.requires.inside)

pub returns-in_err-contents-clause-rows : goal.returns-in_err-contents-clause-rows
returns-in_err-contents-clause-rows g c = λ tells image is blocks right i p there at tree_is.
    let sup = c.args.self.now.sup in
    let ranges = c.args.self.now.ranges.items in
    let slice = c.as_slice-ranges.result.now in
    let same = c.as_slice-ranges.ensures.value in
    let later = g.met.S.BlockSource.kept_blocks c.args.src.now c.read.new.src tells c.read.ensures.kept ∙ is in
    let noted = here image sup ranges i p there at slice c.args.tree same tree_is (λ r t. HasNotedNames c.in_ok-names.names (found image r t)) (c.in_ok-names.ensures.noted tells image is) in
    let checked = c.in_ok-named.ensures.named image right (found image ranges (tree_of sup FS_TREE p)) noted in
    let refused = c.in_err-contents.ensures.refused tells image later (subst AreInBlocks (sym same) blocks) (c.in_ok-names.ensures.noted tells image is) in
    let err = err_from_is_err_and c.from_residual-in_err-contents.result c.from_residual-in_err-contents.ensures.1 in
    rw err.1 (subst (RefusesTree image sup ranges) (sym err.2)
    (contents_refused image sup ranges i p there at slice c.args.tree same tree_is (contains same_node c.in_ok-named.named) _ checked.are_named refused))

pub returns-clause-rows : goal.returns-clause-rows
returns-clause-rows g c = λ tells image is blocks right i p there at tree_is.
    let sup = c.args.self.now.sup in
    let ranges = c.args.self.now.ranges.items in
    let slice = c.as_slice-ranges.result.now in
    let same = c.as_slice-ranges.ensures.value in
    let items = found image ranges (tree_of sup FS_TREE p) in
    let roots = has_root (roots_on image sup ranges) in
    let has = contains same_node c.in_ok-named.named in
    let told : ℕ → Option Content = λ ino. get nat_eq c.in_ok-contents.contents.known ino in
    let later = g.met.S.BlockSource.kept_blocks c.args.src.now c.read.new.src tells c.read.ensures.kept ∙ is in
    let noted = here image sup ranges i p there at slice c.args.tree same tree_is (λ r t. HasNotedNames c.in_ok-names.names (found image r t)) (c.in_ok-names.ensures.noted tells image is) in
    let sound = here image sup ranges i p there at slice c.args.tree same tree_is (λ r t. wrong image r t ≡ []) (c.in_ok-names.ensures.ok tells image is) in
    let checked = subst (λ (root : ℕ). IsChecked c.in_ok-names.names has items root roots) (ap (λ (t : Tree). t.root.address) tree_is) (c.in_ok-named.ensures.named image right items noted) in
    let contents = here image sup ranges i p there at slice c.args.tree same tree_is (λ r t. HasContents (wanted_at has (found image r t)) image r (found image r t) told)
    (c.in_ok-contents.ensures.contents tells image later (subst AreInBlocks (sym same) blocks) (c.in_ok-names.ensures.noted tells image is)) in
    let extents = extents_sound roots items p.address checked.keeps has checked.are_named image ranges told contents in
    rows_answered image sup ranges i p there at sound checked.keeps extents c.rows_of.result
    (c.rows_of.ensures.rows image ranges items p.address roots (record { noted = noted; are_named = checked.are_named; keeps = checked.keeps; links = checked.links; contents = contents }))
