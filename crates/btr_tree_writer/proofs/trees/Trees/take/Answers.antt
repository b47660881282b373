use Rattle.btr_tree_writer.proofs.Imports.{◌+◌, ℕ, List, take, map, sym, subst, ap, ◌∙◌, arith, IsNodeSize, TreeNode}
use Rattle.btr_tree_writer.proofs.Rows.{has_slots, taken_more}
use Rattle.btr_tree_writer.proofs.trees.Trees.take.Goals as goal

pub add_nodes-requires : goal.add_nodes-requires
add_nodes-requires c =
    has_slots c.args.counter.now c.args.self.now.taken c.finish-count.result c.requires.counted.0 c.args.self.now.slots (subst IsNodeSize (sym c.requires.size) c.requires.row.size) c.requires.counted.1
    (c.finish-count.ensures.exact c.requires.counted.0 c.requires.counted.1) (omega (arith, c.if-count-len.false, c.len.ensures)) c.requires.row.within

pub returns-clause-row : goal.returns-clause-row
returns-clause-row c =
    let row = c.requires.row in
    let lengths = c.requires.counted.0 in
    let counted = c.requires.counted.1 in
    let slots : List ℕ = c.args.self.now.slots in
    let taken : ℕ = c.args.self.now.taken in
    record {
      size = row.size;
      slots = row.slots;
      ascending = row.ascending;
      few = row.few;
      within = omega (arith, c.if-count-len.false, c.len.ensures, row.within);
      nodes =
          ap (λ (ns : List TreeNode). map (λ n. n.address) ns) (c.in_ok-add_nodes.ensures lengths counted)
          ∙ (taken_more c.args.self.now.nodes c.args.owner c.args.counter.now.nodesize lengths slots taken row.nodes
          ∙ ap (λ (n : ℕ). take (taken + n) slots) (sym (c.finish-count.ensures.exact lengths counted)));
    }
