use Rattle.convert_trees.proofs.Imports.{◌≡◌, ◌∙◌, ℕ, ◌+◌, ◌-◌, ◌≤◌, ◌++◌, List, length, take, drop, sym, ap, subst, arith, All, length-drop, length-take, ROOT_TREE, Item, IsNodeSize, tree_nodes, lengths_of, NodeForm, root_items_fit, roomy, nodes_of_tree, told_roots, ascends}
use Rattle.convert_trees.proofs.Adding.{handed}
use Rattle.convert_trees.proofs.Rooted.{root_items_few, root_lengths}
use Rattle.convert_trees.proofs.root_tree.keep_roots.Goals as goal

pub root_list-requires-clause-few : goal.root_list-requires-clause-few
root_list-requires-clause-few g c = record { each = c.requires.few; extents_ = omega arith }

pub returns-clause-taken : goal.returns-clause-taken
returns-clause-taken g c =
    let counted = c.counted.ensures.counted in
    let more = c.in_ok-take.ensures.taken _ counted in
    omega (
      arith,
      more.0,
      c.in_ok-take.ensures.row.within,
      ap (λ (s : List ℕ). length s) c.in_ok-take.ensures.same.1,
      c.taken.ensures,
      c.taken-from.ensures,
      ap (λ (s : List ℕ). length s) c.in_ok-first_slots.ensures,
      length-take (c.taken.result - c.taken-from.result) c.in_ok-rest.rest,
      ap (λ (s : List ℕ). length s) c.in_ok-rest.ensures,
      length-drop c.taken-from.result c.take.new.self.slots,
    )

pub returns-in_err-take-clause-misfit : goal.returns-in_err-take-clause-misfit
returns-in_err-take-clause-misfit g c = λ extents enough.
    let form = c.args.w.now.form in
    let lens = ap lengths_of c.in_ok-list.ensures ∙ root_lengths c.args.index form.ids c.args.w.now.time form.nodesize c.args.placed.now c.args.placed.now _ extents c.requires.placed c.requires.placed in
    let sized = ap (λ (f : NodeForm). tree_nodes f.nodesize (lengths_of c.in_ok-list.list)) c.requires.form in
    handed _ _ _ c.from_residual-in_err-take.ensures.1
    (c.in_err-take.ensures.misfit (lengths_of c.in_ok-list.list) c.counted.ensures.counted (omega (arith, enough, sized, ap (λ (ls : List ℕ). tree_nodes form.nodesize ls) lens)))

pub returns-clause-nodes : goal.returns-clause-nodes
returns-clause-nodes g c = λ extents.
    let form = c.args.w.now.form in
    let row = c.args.row.now in
    let lens = ap lengths_of c.in_ok-list.ensures ∙ root_lengths c.args.index form.ids c.args.w.now.time form.nodesize c.args.placed.now c.args.placed.now _ extents c.requires.placed c.requires.placed in
    let more = c.in_ok-take.ensures.taken (lengths_of c.in_ok-list.list) c.counted.ensures.counted in
    subst (λ (ls : List ℕ). c.take.new.self.nodes ≡ row.nodes ++ nodes_of_tree ROOT_TREE form.nodesize ls (drop row.taken row.slots)) lens
    (subst (λ (f : NodeForm). c.take.new.self.nodes ≡ row.nodes ++ nodes_of_tree ROOT_TREE f.nodesize (lengths_of c.in_ok-list.list) (drop row.taken row.slots)) c.requires.form more.1)

pub returns-clause-slots : goal.returns-clause-slots
returns-clause-slots g c = λ extents.
    let form = c.args.w.now.form in
    let row = c.args.row.now in
    let lens = ap lengths_of c.in_ok-list.ensures ∙ root_lengths c.args.index form.ids c.args.w.now.time form.nodesize c.args.placed.now c.args.placed.now _ extents c.requires.placed c.requires.placed in
    let more = c.in_ok-take.ensures.taken (lengths_of c.in_ok-list.list) c.counted.ensures.counted in
    let sized = ap (λ (f : NodeForm). tree_nodes f.nodesize (lengths_of c.in_ok-list.list)) c.requires.form in
    let count : c.taken.result - c.taken-from.result ≡ tree_nodes form.nodesize (lengths_of c.in_ok-list.list) = omega (arith, c.taken.ensures, c.taken-from.ensures, more.0, sized) in
    let rest : c.in_ok-rest.rest ≡ drop row.taken row.slots = c.in_ok-rest.ensures ∙ (ap (λ (n : ℕ). drop n c.take.new.self.slots) c.taken-from.ensures ∙ ap (λ (s : List ℕ). drop row.taken s) c.in_ok-take.ensures.same.1) in
    c.in_ok-first_slots.ensures
    ∙ (ap (λ (s : List ℕ). take (c.taken.result - c.taken-from.result) s) rest
    ∙ ap (λ (n : ℕ). take n (drop row.taken row.slots)) (count ∙ ap (λ (ls : List ℕ). tree_nodes form.nodesize ls) lens))

pub counted-requires-clause-short : goal.counted-requires-clause-short
counted-requires-clause-short g c =
    let form = c.args.w.now.form in
    let fit = root_items_fit (told_roots c.args.placed.now (record { address = 0; level = 0; nodes = 0 })) c.args.index form.ids c.args.w.now.time form.nodesize c.requires.ids (ascends c.args.placed.now (record { address = 0; level = 0; nodes = 0 }) c.requires.placed) in
    let size = subst (λ (f : NodeForm). IsNodeSize f.nodesize) c.requires.form c.requires.row.size in
    subst (λ (items : List Item). All (λ i. length i.1 + 126 ≤ form.nodesize) items) (sym c.in_ok-list.ensures) (λ k d h. omega (arith, fit.short k d h, roomy form.nodesize size))

pub counted-requires-clause-few : goal.counted-requires-clause-few
counted-requires-clause-few g c =
    let form = c.args.w.now.form in
    let few = root_items_few c.args.index form.ids c.args.w.now.time form.nodesize c.args.placed.now (record { address = 0; level = 0; nodes = 0 }) c.requires.placed in
    omega (arith, few, ap (λ (items : List Item). length items) c.in_ok-list.ensures)
