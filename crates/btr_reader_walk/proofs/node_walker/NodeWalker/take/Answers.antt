use Rattle.btr_reader_walk.proofs.Imports.{◌*◌, ◌≤◌, ◌+◌, ℕ, List, sym, ◌∙◌, ap, subst, arith, NodeEntry, fan_out, is_stack, stack_weight}
use Rattle.btr_reader_walk.proofs.Stacks.{stack_popped, stack_top, weight_push}
use Rattle.btr_reader_walk.proofs.Visiting.{no_entries, node_taken, none_taken}
use Rattle.btr_reader_walk.proofs.node_walker.NodeWalker.take.Goals as goal

pub invariant_of-self-clause-stack : goal.invariant_of-self-clause-stack
invariant_of-self-clause-stack c =
    let w = c.args.self.now in
    let fan : ℕ = fan_out w.tree.form.nodesize in
    stack_popped (w.tree.root.level * fan) fan w.pending.items c.pop.new.self.items c.pop.result c.pop.ensures.items w.stack

pub invariant_of-self-clause-room : goal.invariant_of-self-clause-room
invariant_of-self-clause-room c = subst (λ (n : ℕ). c.args.self.now.tree.root.level * fan_out c.args.self.now.tree.form.nodesize + 1 ≤ n) (sym c.pop.ensures.capacity) c.args.self.now.room

pub returns-in_err-entry-clause-takes : goal.returns-in_err-entry-clause-takes
returns-in_err-entry-clause-takes c = λ image ranges.
    rw c.from_residual.ensures (none_taken c.args.self.now image ranges (no_entries c.args.self.now.pending.items (omega (arith, c.in_err-entry.ensures.cases.0))))

pub returns-in_err-entry-clause-over : goal.returns-in_err-entry-clause-over
returns-in_err-entry-clause-over c = rw c.from_residual.ensures (no_entries c.args.self.now.pending.items (omega (arith, c.in_err-entry.ensures.cases.0)))

pub returns-clause-takes : goal.returns-clause-takes
returns-clause-takes c = λ image ranges. node_taken c.args.self.now image ranges c.in_ok-entry.entry c.pop.new.self.items c.in_ok-entry.ensures.items

pub returns-clause-room : goal.returns-clause-room
returns-clause-room c =
    let w = c.args.self.now in
    let fan : ℕ = fan_out w.tree.form.nodesize in
    omega (
      arith,
      stack_top (w.tree.root.level * fan) fan 0 c.pop.new.self.items c.in_ok-entry.entry
          (ap (λ (ps : List NodeEntry). is_stack (w.tree.root.level * fan) fan 0 ps) (sym c.in_ok-entry.ensures.items) ∙ w.stack),
    )

pub returns-clause-ends : goal.returns-clause-ends
returns-clause-ends c =
    let n : ℕ = c.args.self.now.tree.form.nodesize in
    omega (arith, ap (stack_weight n) c.in_ok-entry.ensures.items, weight_push n c.pop.new.self.items c.in_ok-entry.entry)
