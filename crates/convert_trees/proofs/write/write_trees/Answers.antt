use Rattle.convert_trees.proofs.Imports.{◌≡◌, ◌∙◌, inr, ℕ, ◌+◌, ◌*◌, ◌≤◌, List, [], length, sym, ap, subst, arith, All, reads, AreSlots, Item, tree_nodes, lengths_of, chunk_items, TreeNode, AreIds, chunk_items_fit, NodeForm, Trees, node_places, first_items, AddsRow, FitRow, row_count, AddsLast, saved_in, new_trees, NewTree, behind_each, slot_behind}
use Rattle.convert_trees.proofs.Adding.{failed}
use Rattle.convert_trees.proofs.Behind.{row_is}
use Rattle.convert_trees.proofs.Ending.{ends_for, last_fits, trees_stand}
use Rattle.convert_trees.proofs.Few.{row_few}
use Rattle.convert_trees.proofs.Given.{given_for, node_form}
use Rattle.convert_trees.proofs.Going.{goes_by}
use Rattle.convert_trees.proofs.Starting.{adds_by, counted_by, fresh_writable, ready}
use Rattle.convert_trees.proofs.Whole.{chunk_only, first_only, whole}
use Rattle.convert_trees.proofs.write.write_trees.Goals as goal

pub row_of-requires-clause-ascending : goal.row_of-requires-clause-ascending
row_of-requires-clause-ascending g c = c.requires.sound.1.system.ascending

pub row_of-requires-clause-within : goal.row_of-requires-clause-within
row_of-requires-clause-within g c = λ i d h. omega (arith, (c.requires.sound.1.system.free i d h).inside, c.requires.whole)

pub row_of-requires-2-clause-ascending : goal.row_of-requires-2-clause-ascending
row_of-requires-2-clause-ascending g c = c.requires.sound.1.metadata.ascending

pub row_of-requires-2-clause-within : goal.row_of-requires-2-clause-within
row_of-requires-2-clause-within g c = λ i d h. omega (arith, (c.requires.sound.1.metadata.free i d h).inside, c.requires.whole)

pub write_chunks-requires-clause-in_range : goal.write_chunks-requires-clause-in_range
write_chunks-requires-clause-in_range g c = λ i d h.
    omega (arith, c.in_ok-chunk_row.ensures.in_range i d h, ap (λ (f : NodeForm). f.nodesize) c.in_ok-chunk_row.ensures.fields.0, c.requires.inside)

pub write_row-requires-clause-in_range : goal.write_row-requires-clause-in_range
write_row-requires-clause-in_range g c = λ i d h.
    omega (arith, c.in_ok-row.ensures.in_range i d h, ap (λ (f : NodeForm). f.nodesize) c.in_ok-row.ensures.fields.0, c.requires.inside, c.write_chunks.ensures.size)

pub write_last-requires-clause-in_range : goal.write_last-requires-clause-in_range
write_last-requires-clause-in_range g c =
    let one = c.in_ok-placed.ensures.same in
    subst (λ (s : List ℕ). All (λ a. a + c.write_row.new.row.form.nodesize ≤ 4096 * g.D.BlockSource.size c.write_row.new.disk) s) (sym one.1)
    (λ i d h. omega (arith, c.in_ok-row.ensures.in_range i d h, ap (λ (f : NodeForm). f.nodesize) (one.0 ∙ c.in_ok-row.ensures.fields.0), c.requires.inside, c.write_chunks.ensures.size, c.write_row.ensures.size))

pub write_last-requires-clause-form : goal.write_last-requires-clause-form
write_last-requires-clause-form g c = c.in_ok-placed.ensures.same.0 ∙ c.in_ok-row.ensures.fields.0

pub write_last-requires-clause-placed : goal.write_last-requires-clause-placed
write_last-requires-clause-placed g c = c.in_ok-placed.ensures.trees ∙ c.new_trees.ensures

pub write_last-requires-clause-few : goal.write_last-requires-clause-few
write_last-requires-clause-few g c =
    let is = c.in_ok-chunk.ensures.row in
    omega (arith, ap length c.nodes.ensures.same, row_few c.write_chunks.new.row is, is.within, is.few)

pub write_last-requires-clause-roots : goal.write_last-requires-clause-roots
write_last-requires-clause-roots g c =
    let is = c.in_ok-placed.ensures.row in
    λ i d h. omega (arith, behind_each c.in_ok-row.row.taken c.in_ok-placed.placed i d h, c.in_ok-placed.ensures.taken, is.within, is.few)

pub returns-in_err-chunk-clause-only : goal.returns-in_err-chunk-clause-only
returns-in_err-chunk-clause-only g c = λ tells.
    let plan = c.args.plan.now in
    let n = c.args.options.now.nodesize in
    let fields = c.in_ok-chunk_row.ensures.fields in
    chunk_only n plan c.in_ok-chunk_row.chunk_row _ _ (ap (λ (f : NodeForm). f.nodesize) fields.0) fields.1 (c.write_chunks.ensures.only tells)

pub returns-in_err-row-clause-only : goal.returns-in_err-row-clause-only
returns-in_err-row-clause-only g c = λ tells.
    let plan = c.args.plan.now in
    let n = c.args.options.now.nodesize in
    let fields = c.in_ok-chunk_row.ensures.fields in
    chunk_only n plan c.in_ok-chunk_row.chunk_row _ _ (ap (λ (f : NodeForm). f.nodesize) fields.0) fields.1 (c.write_chunks.ensures.only tells)

pub returns-in_err-placed-clause-only : goal.returns-in_err-placed-clause-only
returns-in_err-placed-clause-only g c = λ tells.
    let plan = c.args.plan.now in
    let n = c.args.options.now.nodesize in
    let fields = c.in_ok-chunk_row.ensures.fields in
    let others = c.in_ok-row.ensures.fields in
    first_only n plan c.in_ok-row.row _ _ _ (ap (λ (f : NodeForm). f.nodesize) others.0) others.1
    (chunk_only n plan c.in_ok-chunk_row.chunk_row _ _ (ap (λ (f : NodeForm). f.nodesize) fields.0) fields.1 (c.write_chunks.ensures.only tells))
    (c.write_row.ensures.only tells)

pub returns-clause-only : goal.returns-clause-only
returns-clause-only g c = λ tells.
    let plan = c.args.plan.now in
    let n = c.args.options.now.nodesize in
    let fields = c.in_ok-chunk_row.ensures.fields in
    let others = c.in_ok-row.ensures.fields in
    let same = c.in_ok-placed.ensures.same in
    first_only n plan c.write_row.new.row _ _ _ (ap (λ (f : NodeForm). f.nodesize) (same.0 ∙ others.0)) (same.1 ∙ others.1)
    (first_only n plan c.in_ok-row.row _ _ _ (ap (λ (f : NodeForm). f.nodesize) others.0) others.1
    (chunk_only n plan c.in_ok-chunk_row.chunk_row _ _ (ap (λ (f : NodeForm). f.nodesize) fields.0) fields.1 (c.write_chunks.ensures.only tells))
    (c.write_row.ensures.only tells))
    (c.write_last.ensures.only tells)

pub returns-in_err-chunk_row-clause-trees : goal.returns-in_err-chunk_row-clause-trees
returns-in_err-chunk_row-clause-trees g c = λ tells other is image m making for same fit.
    failed _ _ _ c.from_residual.ensures.1 (inr c.in_err-chunk_row.ensures.answers)

pub returns-in_err-chunk-clause-trees : goal.returns-in_err-chunk-clause-trees
returns-in_err-chunk-clause-trees g c = λ tells other is image m making for same fit.
    let volume = c.args.volume.now in
    let o = c.args.options.now in
    let ids = c.args.ids.now in
    let plan = c.args.plan.now in
    let pieces = g.P.PieceList.pieces c.args.pieces.now in
    let given = given_for image other m making same fit volume o ids c.args.now plan pieces for in
    let chunk_row = c.in_ok-chunk_row.chunk_row in
    let chunk_fields = c.in_ok-chunk_row.ensures.fields in
    let chunk_fresh = row_is chunk_row (node_form o ids) (node_places o.nodesize plan.system) 0 [] chunk_fields.0 chunk_fields.1 chunk_fields.2 chunk_fields.3 in
    let are_ids : AreIds ids = c.know_ids.ensures in
    let chunk_writable = fresh_writable chunk_row (node_form o ids) (node_places o.nodesize plan.system) (chunk_items ids volume.sup.blocks m.chunks) chunk_fresh c.requires.size (chunk_items_fit plan volume.sup.blocks ids m.chunks are_ids given.are).0 given.chunk_few in
    failed _ _ _ c.from_residual-in_err-chunk.ensures.1 (c.in_err-chunk.ensures.tree tells other is m.chunks given.are chunk_writable)

pub returns-in_err-row-clause-trees : goal.returns-in_err-row-clause-trees
returns-in_err-row-clause-trees g c = λ tells other is image m making for same fit.
    failed _ _ _ c.from_residual-in_err-row.ensures.1 (inr c.in_err-row.ensures.answers)

pub returns-in_err-placed-clause-trees : goal.returns-in_err-placed-clause-trees
returns-in_err-placed-clause-trees g c = λ tells other is image m making for same fit.
    let volume = c.args.volume.now in
    let o = c.args.options.now in
    let ids = c.args.ids.now in
    let plan = c.args.plan.now in
    let pieces = g.P.PieceList.pieces c.args.pieces.now in
    let given = given_for image other m making same fit volume o ids c.args.now plan pieces for in
    let chunk_row = c.in_ok-chunk_row.chunk_row in
    let chunk_fields = c.in_ok-chunk_row.ensures.fields in
    let chunk_fresh = row_is chunk_row (node_form o ids) (node_places o.nodesize plan.system) 0 [] chunk_fields.0 chunk_fields.1 chunk_fields.2 chunk_fields.3 in
    let are_ids : AreIds ids = c.know_ids.ensures in
    let start = g.D.Disk.history c.args.disk.now in
    let h₁ = g.D.Disk.history c.write_chunks.new.disk in
    let chunk_end = c.write_chunks.new.row in
    let chunk_goes = goes_by chunk_row chunk_end _ start h₁ c.in_ok-chunk.ensures.same c.in_ok-chunk.ensures.taken (c.write_chunks.ensures.only tells) in
    let row = c.in_ok-row.row in
    let fields = c.in_ok-row.ensures.fields in
    let fresh = row_is row (node_form o ids) (node_places o.nodesize plan.metadata) 0 [] fields.0 fields.1 fields.2 fields.3 in
    let found = ready volume o ids c.args.now plan pieces m.chunks image other given c.requires.size c.requires.sound.0 chunk_row chunk_end row _ start h₁ c.requires.sound.1
    (sym (g.met.D.Disk.open_blocks c.args.disk.now _ tells c.requires.«open») ∙ is) chunk_fresh c.in_ok-chunk_row.ensures.row chunk_goes fresh c.in_ok-row.ensures.row in
    let fit = subst (λ (ts : List NewTree). FitRow row (first_items volume pieces o ids c.args.now m.chunks (reads h₁)) ts) (sym c.new_trees.ensures) found.fit in
    failed _ _ _ c.from_residual-in_err-placed.ensures.1
    (c.in_err-placed.ensures.stand tells _ (g.met.D.Disk.open_blocks c.write_chunks.new.disk _ tells (c.write_chunks.ensures.«open» ∙ c.requires.«open»)) m.chunks given.are found.there found.used found.placed fit)

pub returns-clause-trees : goal.returns-clause-trees
returns-clause-trees g c = λ tells other is image m making for same fit.
    let volume = c.args.volume.now in
    let o = c.args.options.now in
    let ids = c.args.ids.now in
    let plan = c.args.plan.now in
    let pieces = g.P.PieceList.pieces c.args.pieces.now in
    let given = given_for image other m making same fit volume o ids c.args.now plan pieces for in
    let chunk_row = c.in_ok-chunk_row.chunk_row in
    let chunk_fields = c.in_ok-chunk_row.ensures.fields in
    let chunk_fresh = row_is chunk_row (node_form o ids) (node_places o.nodesize plan.system) 0 [] chunk_fields.0 chunk_fields.1 chunk_fields.2 chunk_fields.3 in
    let are_ids : AreIds ids = c.know_ids.ensures in
    let start = g.D.Disk.history c.args.disk.now in
    let h₁ = g.D.Disk.history c.write_chunks.new.disk in
    let chunk_end = c.write_chunks.new.row in
    let chunk_goes = goes_by chunk_row chunk_end _ start h₁ c.in_ok-chunk.ensures.same c.in_ok-chunk.ensures.taken (c.write_chunks.ensures.only tells) in
    let row = c.in_ok-row.row in
    let fields = c.in_ok-row.ensures.fields in
    let fresh = row_is row (node_form o ids) (node_places o.nodesize plan.metadata) 0 [] fields.0 fields.1 fields.2 fields.3 in
    let found = ready volume o ids c.args.now plan pieces m.chunks image other given c.requires.size c.requires.sound.0 chunk_row chunk_end row _ start h₁ c.requires.sound.1
    (sym (g.met.D.Disk.open_blocks c.args.disk.now _ tells c.requires.«open») ∙ is) chunk_fresh c.in_ok-chunk_row.ensures.row chunk_goes fresh c.in_ok-row.ensures.row in
    let chunk_writable = fresh_writable chunk_row (node_form o ids) (node_places o.nodesize plan.system) (chunk_items ids volume.sup.blocks m.chunks) chunk_fresh c.requires.size (chunk_items_fit plan volume.sup.blocks ids m.chunks are_ids given.are).0 given.chunk_few in
    let h₂ = g.D.Disk.history c.write_row.new.disk in
    let h₃ = g.D.Disk.history c.write_last.new.disk in
    let end = c.write_row.new.row in
    let placed = c.in_ok-placed.placed in
    let chunk = c.in_ok-chunk.chunk in
    let items : NewTree → List Item = first_items volume pieces o ids c.args.now m.chunks other in
    let chunk_added = c.in_ok-chunk.ensures.tree tells other is m.chunks given.are chunk_writable in
    let fit = subst (λ (ts : List NewTree). FitRow row (first_items volume pieces o ids c.args.now m.chunks (reads h₁)) ts) (sym c.new_trees.ensures) found.fit in
    let row_added : AddsRow (reads h₂) row end items placed =
    adds_by (reads h₂) row end (first_items volume pieces o ids c.args.now m.chunks (reads h₁)) items found.same placed
    (c.in_ok-placed.ensures.stand tells _ (g.met.D.Disk.open_blocks c.write_chunks.new.disk _ tells (c.write_chunks.ensures.«open» ∙ c.requires.«open»)) m.chunks given.are found.there found.used found.placed fit) in
    let behind : row.taken ≡ 0 = fields.2 in
    let taken : end.taken ≡ slot_behind 0 placed = c.in_ok-placed.ensures.taken ∙ ap (λ (n : ℕ). slot_behind n placed) behind in
    let goes = goes_by row end (slot_behind 0 placed) h₁ h₂ c.in_ok-placed.ensures.same (omega (arith, taken, behind)) (c.write_row.ensures.only tells) in
    let counted : slot_behind 0 placed ≡ row_count o.nodesize items new_trees = counted_by row (node_form o ids) end placed (reads h₂) items fields.0 behind (c.in_ok-placed.ensures.trees ∙ c.new_trees.ensures) row_added in
    let enough = last_fits end (node_form o ids) (node_places o.nodesize plan.metadata) _ (saved_in volume) c.args.now (length pieces) (length m.chunks) _ (length c.nodes.result.now) (goes.form ∙ fields.0) (goes.slots ∙ fields.1)
    (taken ∙ counted)
    (omega (arith, ap length c.nodes.ensures.same, row_few chunk_end c.in_ok-chunk.ensures.row, chunk_goes.taken, chunk_fields.2, chunk_added.stands.count, ap (λ (f : NodeForm). tree_nodes f.nodesize (lengths_of (chunk_items ids volume.sup.blocks m.chunks))) chunk_fields.0))
    given.few in
    whole c.write_last.result _ _ _ c.write_last.ensures.same (c.write_last.ensures.trees tells image given.opened m.chunks given.are enough) (λ t eq last.
    trees_stand image other m chunk_row chunk_end row end chunk placed h₁ h₂ h₃ t
    (ends_for m volume o ids c.args.now plan pieces image other chunk_row chunk_end row end chunk placed h₁ h₂ h₃ t for (record {
      size = c.requires.size;
      apart = c.requires.sound.1.system_metadata;
      serve = subst (λ (x : Trees). AreSlots x.form.nodesize x.slots) fresh c.in_ok-row.ensures.row.slots;
      chunk_fresh = chunk_fresh;
      row_fresh = fresh;
      chunk_adds = chunk_added;
      trees = c.in_ok-placed.ensures.trees ∙ c.new_trees.ensures;
      row_adds = row_added;
      goes = goes;
      only = c.write_last.ensures.only tells;
      files = given.files_same;
      chunk_same = eq;
      last_adds = subst (λ (ns : List TreeNode). AddsLast (reads h₃) end (saved_in volume) c.args.now m.chunks pieces ns placed t) c.nodes.ensures.same last;
    })))
