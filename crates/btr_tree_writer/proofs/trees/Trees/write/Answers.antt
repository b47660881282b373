use Rattle.btr_tree_writer.proofs.Imports.{ℕ, List, sym, subst, reads, WritesOnly, lengths_of, IsInSlots, LieApart, AreWritable, TreeStands, read_form}
use Rattle.btr_tree_writer.proofs.Rows.{apart_left, memory_cause, still_enough}
use Rattle.btr_tree_writer.proofs.trees.Trees.write.Goals as goal

pub returns-in_err-tree-clause-only : goal.returns-in_err-tree-clause-only
returns-in_err-tree-clause-only g c = λ tells.
    subst (λ (x : List ℕ). WritesOnly (λ b _. IsInSlots c.args.self.now.form.nodesize x b) (g.D.Disk.history c.args.disk.now) (g.D.Disk.history c.write_tree.new.disk)) c.in_ok-slots.ensures
    (c.write_tree.ensures.only tells)

pub returns-in_err-take-clause-only : goal.returns-in_err-take-clause-only
returns-in_err-take-clause-only g c = λ tells.
    subst (λ (x : List ℕ). WritesOnly (λ b _. IsInSlots c.args.self.now.form.nodesize x b) (g.D.Disk.history c.args.disk.now) (g.D.Disk.history c.write_tree.new.disk)) c.in_ok-slots.ensures
    (c.write_tree.ensures.only tells)

pub returns-in_err-take-clause-cause : goal.returns-in_err-take-clause-cause
returns-in_err-take-clause-cause g c =
    let counted = c.in_ok-tree.ensures.counted in
    memory_cause c.from_residual-in_err-take.result c.in_err-take.field-0.0 _ _ (c.in_ok-tree.ensures.cause.kept (λ e. absurd cc)) c.from_residual-in_err-take.ensures.1
    (c.in_err-take.ensures.misfit counted.0 counted.1
    (still_enough c.args.self.now.taken _ c.in_ok-tree.tree.root.nodes c.args.self.now.slots c.in_ok-slots.slots c.in_ok-slots.ensures c.requires.row.within counted.2 c.in_ok-tree.ensures.few))

pub returns-clause-tree : goal.returns-clause-tree
returns-clause-tree g c = λ tells image is fits apart all are writable.
    let form = c.args.self.now.form in
    let at = c.in_ok-slots.ensures in
    let needs : ℕ → Type 0 = g.I.ItemSource.needs c.args.items.now in
    let told = c.in_ok-tree.ensures.tree tells image is fits (subst (λ (x : List ℕ). LieApart needs form.nodesize x) (sym at) (apart_left needs form.nodesize c.args.self.now.taken c.args.self.now.slots apart)) all are (subst (λ (x : List ℕ). AreWritable form.nodesize x all) (sym at) writable) in (
      subst (λ (x : List ℕ). TreeStands (reads (g.D.Disk.history c.write_tree.new.disk)) (read_form form) c.args.owner x all c.in_ok-tree.tree.root) at told.0,
      (c.in_ok-take.ensures.taken (lengths_of all) told.1).1,
    )

pub returns-clause-only : goal.returns-clause-only
returns-clause-only g c = λ tells.
    subst (λ (x : List ℕ). WritesOnly (λ b _. IsInSlots c.args.self.now.form.nodesize x b) (g.D.Disk.history c.args.disk.now) (g.D.Disk.history c.write_tree.new.disk)) c.in_ok-slots.ensures
    (c.write_tree.ensures.only tells)
