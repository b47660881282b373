use Rattle.convert_trees.proofs.Imports.{◌≡◌, inr, ℕ, refl, ap, subst, arith, reads, writes_then, IsNodeSize, NodeForm, AddsLast, saved_in}
use Rattle.convert_trees.proofs.Adding.{all_of_list, failed}
use Rattle.convert_trees.proofs.Behind.{IsInRest, later_by}
use Rattle.convert_trees.proofs.Front.{kept_inside_so, kept_only, kept_serve_so, later_only}
use Rattle.convert_trees.proofs.RootTree.{count_needed, kept_long, last_stand, room_left, root_writable, told_with}
use Rattle.convert_trees.proofs.root_tree.write_last.Goals as goal

pub root_list-requires-clause-few : goal.root_list-requires-clause-few
root_list-requires-clause-few g c = record {
  each = c.requires.roots;
  extents_ = omega (arith, c.in_ok-written.ensures.taken, c.in_ok-written.ensures.row.within, c.in_ok-written.ensures.row.few);
}

pub write_tree-requires-clause-slots : goal.write_tree-requires-clause-slots
write_tree-requires-clause-slots g c = kept_serve_so c.args.row.now c.args.w.now.form _ c.in_ok-slots.slots c.requires.row c.requires.form (c.in_ok-slots.ensures.slots c.args.chunk)

pub write_tree-requires-clause-in_range : goal.write_tree-requires-clause-in_range
write_tree-requires-clause-in_range g c =
    kept_inside_so c.args.row.now c.args.w.now.form _ c.in_ok-slots.slots _ _ c.requires.row c.requires.form (c.in_ok-slots.ensures.slots c.args.chunk) c.write_extents.ensures.size c.requires.in_range

pub returns-in_err-written-clause-only : goal.returns-in_err-written-clause-only
returns-in_err-written-clause-only g c = λ tells.
    later_only c.args.row.now c.keep_roots.new.row _ _ (later_by c.args.row.now c.keep_roots.new.row _ c.in_ok-slots.ensures.same c.in_ok-slots.ensures.taken) (c.write_extents.ensures.only tells)

pub returns-in_err-list-clause-only : goal.returns-in_err-list-clause-only
returns-in_err-list-clause-only g c = λ tells.
    later_only c.args.row.now c.keep_roots.new.row _ _ (later_by c.args.row.now c.keep_roots.new.row _ c.in_ok-slots.ensures.same c.in_ok-slots.ensures.taken) (c.write_extents.ensures.only tells)

pub returns-in_err-tree-clause-only : goal.returns-in_err-tree-clause-only
returns-in_err-tree-clause-only g c = λ tells.
    let row = c.args.row.now in
    writes_then (λ b _. IsInRest row b) _ _ _
    (later_only row c.keep_roots.new.row _ _ (later_by row c.keep_roots.new.row _ c.in_ok-slots.ensures.same c.in_ok-slots.ensures.taken) (c.write_extents.ensures.only tells))
    (kept_only row c.args.w.now.form.nodesize _ c.in_ok-slots.slots _ _ (ap (λ (f : NodeForm). f.nodesize) c.requires.form) (c.in_ok-slots.ensures.slots c.args.chunk) (c.write_tree.ensures.only tells))

pub returns-clause-only : goal.returns-clause-only
returns-clause-only g c = λ tells.
    let row = c.args.row.now in
    writes_then (λ b _. IsInRest row b) _ _ _
    (later_only row c.keep_roots.new.row _ _ (later_by row c.keep_roots.new.row _ c.in_ok-slots.ensures.same c.in_ok-slots.ensures.taken) (c.write_extents.ensures.only tells))
    (kept_only row c.args.w.now.form.nodesize _ c.in_ok-slots.slots _ _ (ap (λ (f : NodeForm). f.nodesize) c.requires.form) (c.in_ok-slots.ensures.slots c.args.chunk) (c.write_tree.ensures.only tells))

pub returns-in_err-slots-clause-trees : goal.returns-in_err-slots-clause-trees
returns-in_err-slots-clause-trees g c = λ tells opened is chunks are enough.
    let count = count_needed c.args.row.now c.args.w.now.form c.saved_index-index.result (saved_in c.args.w.now.volume.now) c.args.w.now.time c.args.placed.now c.args.chunk c.requires.placed c.requires.form (c.saved_index-index.ensures opened is) in
    failed _ _ _ c.from_residual.ensures.1 (inr (c.in_err-slots.ensures.misfit c.args.chunk (omega (arith, enough, count))))

pub returns-in_err-written-clause-trees : goal.returns-in_err-written-clause-trees
returns-in_err-written-clause-trees g c = λ tells opened is chunks are enough.
    let room =
    room_left c.args.row.now c.keep_roots.new.row c.args.w.now.form c.saved_index-index.result (saved_in c.args.w.now.volume.now) c.args.w.now.time c.args.placed.now c.args.chunk c.in_ok-slots.slots chunks
    (g.P.PieceList.pieces c.args.w.now.pieces.now) c.args.chunk_nodes.now c.requires.placed c.requires.form (c.saved_index-index.ensures opened is) c.requires.row c.in_ok-slots.ensures.row c.in_ok-slots.ensures.same.1 c.in_ok-slots.ensures.taken (c.in_ok-slots.ensures.slots c.args.chunk) enough in
    failed _ _ _ c.from_residual-in_err-written.ensures.1 (c.in_err-written.ensures.tree tells chunks are room)

pub returns-in_err-tree-clause-trees : goal.returns-in_err-tree-clause-trees
returns-in_err-tree-clause-trees g c = λ tells opened is chunks are enough.
    let row = c.args.row.now in
    let form = c.args.w.now.form in
    let now = c.args.w.now.time in
    let index = c.saved_index-index.result in
    let root = c.in_ok-written.written.root in
    let slots = c.in_ok-slots.slots in
    let at = c.in_ok-slots.ensures.slots root in
    let count = count_needed row form index (saved_in c.args.w.now.volume.now) now c.args.placed.now root c.requires.placed c.requires.form (c.saved_index-index.ensures opened is) in
    let long = kept_long row _ slots at (omega (arith, enough, count)) in
    let size = subst IsNodeSize (ap (λ (f : NodeForm). f.nodesize) c.requires.form) c.requires.row.size in
    let writable = root_writable form index now c.args.placed.now root slots c.requires.placed size c.requires.ids (omega (arith, long)) in
    failed _ _ _ c.from_residual-in_err-tree.ensures.1
    (c.in_err-tree.ensures.tree tells _ refl tt (λ b never inside. never) _ (all_of_list _ _ _ _ c.new.ensures.all c.new.ensures.none_given c.in_ok-list.ensures) writable)

pub returns-clause-trees : goal.returns-clause-trees
returns-clause-trees g c = λ tells opened is chunks are enough.
    let row = c.args.row.now in
    let mid = c.keep_roots.new.row in
    let form = c.args.w.now.form in
    let now = c.args.w.now.time in
    let pieces = g.P.PieceList.pieces c.args.w.now.pieces.now in
    let index = c.saved_index-index.result in
    let x = c.in_ok-written.written in
    let slots = c.in_ok-slots.slots in
    let at = c.in_ok-slots.ensures.slots x.root in
    let saved : index ≡ saved_in c.args.w.now.volume.now = c.saved_index-index.ensures opened is in
    let count = count_needed row form index (saved_in c.args.w.now.volume.now) now c.args.placed.now x.root c.requires.placed c.requires.form saved in
    let here = count_needed row row.form index (saved_in c.args.w.now.volume.now) now c.args.placed.now x.root c.requires.placed refl saved in
    let long = kept_long row _ slots at (omega (arith, enough, count)) in
    let size = subst IsNodeSize (ap (λ (f : NodeForm). f.nodesize) c.requires.form) c.requires.row.size in
    let writable = root_writable form index now c.args.placed.now x.root slots c.requires.placed size c.requires.ids (omega (arith, long)) in
    let room =
    room_left row mid form index (saved_in c.args.w.now.volume.now) now c.args.placed.now x.root slots chunks pieces c.args.chunk_nodes.now c.requires.placed c.requires.form saved c.requires.row c.in_ok-slots.ensures.row c.in_ok-slots.ensures.same.1 c.in_ok-slots.ensures.taken at enough in
    let told = c.in_ok-tree.ensures.tree tells _ refl tt (λ b never inside. never) _ (all_of_list _ _ _ _ c.new.ensures.all c.new.ensures.none_given c.in_ok-list.ensures) writable in
    let stand =
    last_stand (g.D.Disk.history c.write_extents.new.disk) (g.D.Disk.history c.write_tree.new.disk) row mid c.write_extents.new.row slots index now chunks pieces c.args.chunk_nodes.now c.args.chunk c.args.placed.now x c.in_ok-tree.tree.root form c.requires.form c.requires.row
    c.in_ok-slots.ensures.same.0 c.in_ok-slots.ensures.same.1 c.in_ok-slots.ensures.taken
    (c.in_ok-written.ensures.tree tells chunks are room) (omega (arith, enough, here)) (c.in_ok-slots.ensures.nodes x.root) at (c.write_tree.ensures.only tells) told.0 in
    subst (λ (i : ℕ). AddsLast (reads (g.D.Disk.history c.write_tree.new.disk)) row i now chunks pieces c.args.chunk_nodes.now c.args.placed.now (told_with c.args.chunk x c.in_ok-tree.tree.root)) saved stand
