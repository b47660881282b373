use Rattle.convert_trees.proofs.Imports.{◌≡◌, ◌∙◌, ◌<◌, ◌*◌, ◌^◌, List, IfOk, sym, ap, subst, All, AllPairs, Item, PlacedTree, root_items, told_roots, TreeRoot, ascends, few_told}
use Rattle.convert_trees.proofs.Tallying.{sized}
use Rattle.convert_trees.proofs.roots.root_list.Goals as goal

pub roots-requires-clause-few : goal.roots-requires-clause-few
roots-requires-clause-few g c =
    let n = c.args.w.now.form.nodesize in
    let is : c.in_ok-list.list ≡ told_roots c.args.placed.now c.args.extents = c.in_ok-list.ensures ∙ ap (λ (ps : List PlacedTree). told_roots ps c.args.extents) c.as_slice.ensures in
    subst (λ (list : List TreeRoot). All (λ r. n * r.root.nodes < 2 ^ 64) list) (sym is)
    (λ i d h. sized n _ c.requires.size (few_told c.args.placed.now c.args.extents (2 ^ 43) c.requires.few.each c.requires.few.extents_ i d h))

pub roots-requires-clause-order : goal.roots-requires-clause-order
roots-requires-clause-order g c =
    let is : c.in_ok-list.list ≡ told_roots c.args.placed.now c.args.extents = c.in_ok-list.ensures ∙ ap (λ (ps : List PlacedTree). told_roots ps c.args.extents) c.as_slice.ensures in
    subst (λ (list : List TreeRoot). AllPairs (λ r s. r.tree < s.tree) list) (sym is) (ascends c.args.placed.now c.args.extents c.requires.trees)

pub returns : goal.returns
returns g c =
    let w = c.args.w.now in
    let is : c.in_ok-list.list ≡ told_roots c.args.placed.now c.args.extents = c.in_ok-list.ensures ∙ ap (λ (ps : List PlacedTree). told_roots ps c.args.extents) c.as_slice.ensures in
    subst (λ (list : List TreeRoot). IfOk c.roots.result (λ (items : List Item). items ≡ root_items list c.args.index w.form.ids w.time w.form.nodesize)) is c.roots.ensures
