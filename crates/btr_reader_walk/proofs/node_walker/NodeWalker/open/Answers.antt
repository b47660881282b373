use Rattle.btr_reader_walk.proofs.Imports.{◌++◌, ℕ, List, length, reverse, sym, ◌∙◌, ap, subst, err_from_is_err_and, Image, HasLeafLayout, MapRange, is_mapped, node_at, child_entries, Refuses}
use Rattle.btr_reader_walk.proofs.Visiting.{node_opens, node_breaks, node_unread}
use Rattle.btr_reader_walk.proofs.node_walker.NodeWalker.open.Goals as goal

pub returns-in_err-read_node-clause-opens : goal.returns-in_err-read_node-clause-opens
returns-in_err-read_node-clause-opens g c = λ tells image is.
    let w = c.args.self.now in
    let err = err_from_is_err_and c.from_residual.result c.from_residual.ensures.1 in
    rw err.1 (subst (Refuses c.args.entry.now w w image c.args.ranges.now) (sym err.2)
    (node_unread w image c.args.ranges.now c.args.entry.now (length w.bytes.items) c.in_err-read_node.field-0.0 w.buffer c.in_err-read_node.ensures.unmapped))

pub returns-in-Ok-clause-opens : goal.returns-in-Ok-clause-opens
returns-in-Ok-clause-opens g c = λ tells image is.
    let w = c.args.self.now in
    let ranges : List MapRange = c.args.ranges.now in
    let address : ℕ = c.args.entry.now.pointer.address in
    node_opens w c.judge.new.self image ranges c.args.entry.now c.read_node.new.buffer.items c.judge.ensures.tree c.judge.ensures.owners c.judge.ensures.bytes
    (c.in_ok-read_node.ensures.bytes tells ∙ (ap (λ (i : Image). node_at i ranges (length w.bytes.items) address) is ∙ ap (λ (n : ℕ). node_at image ranges n address) w.buffer))
    (ap (λ (n : ℕ). is_mapped ranges n address) (sym w.buffer) ∙ c.in_ok-read_node.ensures.mapped)
    c.in-Ok.ensures.damages c.in-Ok.ensures.pushes

pub returns-in-Ok-clause-pushes : goal.returns-in-Ok-clause-pushes
returns-in-Ok-clause-pushes g c =
    c.in-Ok.ensures.pushes ∙ ap (λ (b : List ℕ). c.args.self.now.pending.items ++ reverse (child_entries c.args.entry.now.pointer.level b)) (sym c.judge.ensures.bytes)

pub returns-in-Ok-clause-layout : goal.returns-in-Ok-clause-layout
returns-in-Ok-clause-layout g c = λ leaf. subst HasLeafLayout (sym c.judge.ensures.bytes) (c.in-Ok.ensures.layout leaf)

pub returns-in-Err-clause-opens : goal.returns-in-Err-clause-opens
returns-in-Err-clause-opens g c = λ tells image is.
    let w = c.args.self.now in
    let ranges : List MapRange = c.args.ranges.now in
    let address : ℕ = c.args.entry.now.pointer.address in
    node_breaks w c.judge.new.self image ranges c.args.entry.now c.in-Err.rule c.read_node.new.buffer.items c.judge.ensures.tree c.judge.ensures.owners c.in-Err.ensures.unchanged
    (c.in_ok-read_node.ensures.bytes tells ∙ (ap (λ (i : Image). node_at i ranges (length w.bytes.items) address) is ∙ ap (λ (n : ℕ). node_at image ranges n address) w.buffer))
    (ap (λ (n : ℕ). is_mapped ranges n address) (sym w.buffer) ∙ c.in_ok-read_node.ensures.mapped)
    c.in-Err.ensures.damages
