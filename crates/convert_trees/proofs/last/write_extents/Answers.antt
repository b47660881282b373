use Rattle.convert_trees.proofs.Imports.{◌∙◌, ◌≤◌, length, drop, refl, sym, ap, subst, arith, length-drop, IsNodeSize, tree_nodes, lengths_of, Super, extent_items, AreWritable, NodeForm, AreChunks}
use Rattle.convert_trees.proofs.Adding.{failed}
use Rattle.convert_trees.proofs.Extents.{extents_added, extents_writable, used_sum}
use Rattle.convert_trees.proofs.last.write_extents.Goals as goal

pub returns-in_err-root-clause-tree : goal.returns-in_err-root-clause-tree
returns-in_err-root-clause-tree g c = λ tells chunks are enough.
    let form = c.args.w.now.form in
    let pieces = g.P.PieceList.pieces c.args.w.now.pieces.now in
    let row = c.args.row.now in
    let rest = drop row.taken row.slots in
    let nodes = c.in_ok-nodes.nodes in
    let items = extent_items chunks pieces nodes form.nodesize in
    let known = subst (λ (s : Super). AreChunks c.args.w.now.plan.now s.blocks chunks) (sym c.sup.ensures) are in
    let few : tree_nodes form.nodesize (lengths_of items) ≤ length rest = omega (arith, c.in_ok-nodes.ensures.room chunks are, length-drop row.taken row.slots) in
    let size = subst IsNodeSize (ap (λ (f : NodeForm). f.nodesize) c.requires.form) c.requires.row.size in
    let writable = extents_writable c.args.w.now.plan.now c.args.w.now.volume.now.sup.blocks chunks pieces nodes form.nodesize rest size are c.requires.pieces c.in_ok-nodes.ensures.nodes few in
    failed _ _ _ c.from_residual-in_err-root.ensures.1
    (c.in_err-root.ensures.tree tells _ refl tt (λ b never inside. never) items (c.in_ok-extents.ensures.all chunks known) (subst (λ (f : NodeForm). AreWritable f.nodesize rest items) (sym c.requires.form) writable))

pub returns-clause-tree : goal.returns-clause-tree
returns-clause-tree g c = λ tells chunks are enough.
    let form = c.args.w.now.form in
    let pieces = g.P.PieceList.pieces c.args.w.now.pieces.now in
    let row = c.args.row.now in
    let rest = drop row.taken row.slots in
    let nodes = c.in_ok-nodes.nodes in
    let items = extent_items chunks pieces nodes form.nodesize in
    let known = subst (λ (s : Super). AreChunks c.args.w.now.plan.now s.blocks chunks) (sym c.sup.ensures) are in
    let few : tree_nodes form.nodesize (lengths_of items) ≤ length rest = omega (arith, c.in_ok-nodes.ensures.room chunks are, length-drop row.taken row.slots) in
    let size = subst IsNodeSize (ap (λ (f : NodeForm). f.nodesize) c.requires.form) c.requires.row.size in
    let writable = extents_writable c.args.w.now.plan.now c.args.w.now.volume.now.sup.blocks chunks pieces nodes form.nodesize rest size are c.requires.pieces c.in_ok-nodes.ensures.nodes few in
    let told = c.in_ok-root.ensures.tree tells _ refl tt (λ b never inside. never) items (c.in_ok-extents.ensures.all chunks known) (subst (λ (f : NodeForm). AreWritable f.nodesize rest items) (sym c.requires.form) writable) in
    extents_added _ row c.write.new.self form.nodesize chunks pieces nodes c.args.chunk_nodes.now _ (ap (λ (f : NodeForm). f.nodesize) c.requires.form) told.0 told.1 (c.in_ok-nodes.ensures.all chunks are)
    (c.used-used.ensures ∙ used_sum pieces nodes form.nodesize chunks _ (c.in_ok-extents.ensures.groups chunks known))
