use Rattle.fs_paths.proofs.Imports.{List, is_lt, sym, subst, rules, answers_always, ranks_by, IfOk-weaker, path_cmp, PathFound, NodeLink, PathTo, ArePaths, AscendByDirectory, FormTree, Reaches}
use Rattle.fs_paths.proofs.Arranging.{tree_from_named, tree_sorted, reaches_sorted, path_total, listed}
use Rattle.fs_paths.proofs.list.paths.Goals as goal

pub spread-requires : goal.spread-requires
spread-requires c = subst AscendByDirectory (sym c.deref.ensures.value) (record { sorted = c.in_ok-sort_by_key.ensures.sorted (λ link. link.dir) (answers_always _ _ _ (λ f a r g h. search rules)) })

pub returns : goal.returns
returns c =
    let links : List NodeLink = c.args.links.items in
    let by_dir : List NodeLink = c.sort_by_key.new.self.items in
    let found : List PathFound = c.in_ok-found.found.items in
    let by_path : List PathFound = c.sort_by.new.self.items in
    let same = c.in_ok-sort_by_key.ensures.permutation in
    let ascend = c.in_ok-sort_by.ensures.sorted (λ f g. is_lt (path_cmp f.path g.path)) (ranks_by path_total (λ (f : PathFound). f.path)) (answers_always _ _ _ (λ f a r g h. search rules)) in
    let reached : FormTree by_dir c.args.root → Reaches by_dir c.args.root found = subst (λ (l : List NodeLink). FormTree l c.args.root → Reaches l c.args.root found) c.deref.ensures.value c.in_ok-found.ensures in
    IfOk-weaker c.number.result _ _
    (λ list is named.
    let tree = tree_sorted links by_dir c.args.root same (tree_from_named links c.args.root named) in
    let reaches = reaches_sorted links by_dir c.args.root same found by_path c.in_ok-sort_by.ensures.permutation (reached tree) in
    subst (λ (l : List PathTo). ArePaths links c.args.root l) (sym is) (listed links c.args.root by_path reaches ascend))
    c.number.ensures
