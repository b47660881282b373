use Rattle.convert_trees.proofs.Imports.{◌∙◌, ℕ, List, length, drop, sym, ap, subst, arith, length-drop, tree_nodes, lengths_of, Super, extent_items, merged_nodes, TreeNode, AreChunks}
use Rattle.space_items.proofs.Staying.{own_nodes_stay_so}
use Rattle.convert_trees.proofs.Few.{few_merged, merged_fit, row_few, same_nodes}
use Rattle.convert_trees.proofs.last.all_nodes.Goals as goal

pub extent_bound-requires-clause-few : goal.extent_bound-requires-clause-few
extent_bound-requires-clause-few g c =
    omega (arith, c.len.ensures, few_merged c.in_ok-others.others c.nodes.result.now c.args.chunk_nodes.now c.in_ok-others.ensures, ap (λ (xs : List TreeNode). length xs) c.nodes.ensures.same, row_few c.args.row.now c.requires.row, c.requires.row.few, c.requires.few)

pub own_nodes-requires-clause-nodes : goal.own_nodes-requires-clause-nodes
own_nodes-requires-clause-nodes g c =
    merged_fit c.in_ok-others.others c.nodes.result.now c.args.chunk_nodes.now c.in_ok-others.ensures (c.nodes.ensures.fit c.requires.row) c.requires.nodes
    (omega (arith, ap (λ (xs : List TreeNode). length xs) c.nodes.ensures.same, row_few c.args.row.now c.requires.row, c.requires.row.few, c.requires.few))

pub own_nodes-requires-clause-few : goal.own_nodes-requires-clause-few
own_nodes-requires-clause-few g c =
    omega (
      arith,
      few_merged c.in_ok-others.others c.nodes.result.now c.args.chunk_nodes.now c.in_ok-others.ensures,
      ap (λ (xs : List TreeNode). length xs) c.nodes.ensures.same,
      row_few c.args.row.now c.requires.row,
      c.requires.row.few,
      c.requires.row.within,
      c.requires.few,
      ap (λ (xs : List ℕ). length xs) c.in_ok-rest.ensures,
      c.taken.ensures,
      length-drop c.taken.result c.args.row.now.slots,
    )

pub with_own-requires-clause-nodes : goal.with_own-requires-clause-nodes
with_own-requires-clause-nodes g c =
    merged_fit c.in_ok-others.others c.nodes.result.now c.args.chunk_nodes.now c.in_ok-others.ensures (c.nodes.ensures.fit c.requires.row) c.requires.nodes
    (omega (arith, ap (λ (xs : List TreeNode). length xs) c.nodes.ensures.same, row_few c.args.row.now c.requires.row, c.requires.row.few, c.requires.few))

pub with_own-requires-clause-few : goal.with_own-requires-clause-few
with_own-requires-clause-few g c =
    omega (
      arith,
      few_merged c.in_ok-others.others c.nodes.result.now c.args.chunk_nodes.now c.in_ok-others.ensures,
      ap (λ (xs : List TreeNode). length xs) c.nodes.ensures.same,
      row_few c.args.row.now c.requires.row,
      c.requires.row.few,
      c.requires.row.within,
      c.requires.few,
      ap (λ (xs : List ℕ). length xs) c.in_ok-rest.ensures,
      c.taken.ensures,
      length-drop c.taken.result c.args.row.now.slots,
    )

pub returns-clause-all : goal.returns-clause-all
returns-clause-all g c = λ chunks are.
    let pieces = g.P.PieceList.pieces c.args.w.now.pieces.now in
    let size = c.args.w.now.form.nodesize in
    let known = subst (λ (s : Super). AreChunks c.args.w.now.plan.now s.blocks chunks) (sym c.sup.ensures) are in
    let stay = own_nodes_stay_so chunks pieces c.in_ok-others.others c.in_ok-rest.rest size c.in_ok-own.own (c.in_ok-own.ensures.count chunks known) in
    same_nodes chunks pieces size c.in_ok-with_own.field-0 _ c.in_ok-others.others c.args.row.now.nodes c.args.chunk_nodes.now c.in_ok-rest.rest (drop c.args.row.now.taken c.args.row.now.slots) (c.in_ok-with_own.ensures.nodes chunks known) (c.in_ok-others.ensures ∙ ap (λ (ns : List TreeNode). merged_nodes ns c.args.chunk_nodes.now) c.nodes.ensures.same)
    (c.in_ok-rest.ensures ∙ ap (λ (n : ℕ). drop n c.args.row.now.slots) c.taken.ensures) stay.nodes

pub returns-clause-room : goal.returns-clause-room
returns-clause-room g c = λ chunks are.
    let pieces = g.P.PieceList.pieces c.args.w.now.pieces.now in
    let size = c.args.w.now.form.nodesize in
    let known = subst (λ (s : Super). AreChunks c.args.w.now.plan.now s.blocks chunks) (sym c.sup.ensures) are in
    let stay = own_nodes_stay_so chunks pieces c.in_ok-others.others c.in_ok-rest.rest size c.in_ok-own.own (c.in_ok-own.ensures.count chunks known) in
    omega (
      arith,
      ap (λ (ns : List TreeNode). tree_nodes size (lengths_of (extent_items chunks pieces ns size))) (c.in_ok-with_own.ensures.nodes chunks known),
      stay.count,
      c.in_ok-own.ensures.room,
      ap (λ (xs : List ℕ). length xs) c.in_ok-rest.ensures,
      c.taken.ensures,
      length-drop c.taken.result c.args.row.now.slots,
    )
