use Rattle.space_items.proofs.Imports.{◌≡◌, ℕ, List, ◌++◌, ◌≤◌, Result, Ok, Err, IfOk, length, arith, subst, sym, ◌∙◌, ap, EXTENT_TREE, IsNodeSize, Counted, Tally, tree_nodes, lengths_of, PlannedChunk, Piece, extent_items, AreNodes, HasSlots, merged_nodes, nodes_of_tree, IsOwnCount, own_at, own_lengths, TreeNode}
use Rattle.btr_tree.specs.outside.declared.fault.Memory.{Memory}
use Rattle.space_items.proofs.Ascending.{addresses, with_leaves, with_others, tree_at}
use Rattle.space_items.proofs.ChunksExist.{the_chunks, are_the_chunks}
use Rattle.space_items.proofs.own_count.with_own.Goals as goal

pub counted-requires-clause-nodes : goal.counted-requires-clause-nodes
counted-requires-clause-nodes g c = subst AreNodes (sym c.in_ok-leaves.ensures) (with_leaves c.args.others.now c.args.rest.now c.requires.nodes c.requires.slots c.requires.few c.args.count)

-- there are as many slots as the counter tells
has_slots : (chunks : List PlannedChunk) (pieces : List Piece) (others nodes : List TreeNode) (slots : List ℕ) (nodesize count : ℕ) (tally : Tally) → IsNodeSize nodesize → tally.nodesize ≡ nodesize → nodes ≡ merged_nodes others (own_at slots count)
    → Counted tally (lengths_of (extent_items chunks pieces nodes nodesize)) → IsOwnCount chunks pieces others slots nodesize count → count ≤ length slots → HasSlots tally 0 slots
has_slots chunks pieces others nodes slots nodesize count tally size same is counted own enough =
    let lengths : List ℕ = own_lengths chunks pieces others slots nodesize count in
    record {
      size = subst IsNodeSize (sym same) size;
      lengths = lengths;
      counted = subst (λ ns. Counted tally (lengths_of (extent_items chunks pieces ns nodesize))) is counted;
      enough = omega (arith, own.same, enough, ap (λ (n : ℕ). tree_nodes n lengths) same);
    }

pub add_nodes-requires : goal.add_nodes-requires
add_nodes-requires g c =
    let chunks = the_chunks c.args.plan.now c.args.blocks in
    let are = are_the_chunks c.args.plan.now c.args.blocks in
    has_slots chunks (g.P.PieceList.pieces c.args.pieces.now) c.args.others.now c.in_ok-leaves.leaves c.args.rest.now c.args.nodesize c.args.count c.in_ok-counter.counter c.requires.size c.in_ok-counter.ensures.size c.in_ok-leaves.ensures
    (c.in_ok-counter.ensures.lengths chunks are) (c.requires.own chunks are) c.requires.enough

told : (r : Result (List TreeNode) Memory) (nodes : List TreeNode) → IfOk r (λ all. all ≡ nodes) → AreNodes nodes → IfOk r AreNodes
told (Ok all) nodes is are = subst AreNodes (sym is) are
told (Err e) nodes is are = tt

pub returns-clause-fit : goal.returns-clause-fit
returns-clause-fit g c =
    let pieces = g.P.PieceList.pieces c.args.pieces.now in
    let others = c.args.others.now in
    let rest = c.args.rest.now in
    let chunks = the_chunks c.args.plan.now c.args.blocks in
    let are = are_the_chunks c.args.plan.now c.args.blocks in
    let lengths = lengths_of (extent_items chunks pieces c.in_ok-leaves.leaves c.args.nodesize) in
    let own : c.add_nodes.new.nodes ≡ nodes_of_tree EXTENT_TREE c.in_ok-counter.counter.nodesize lengths rest = c.in_ok-add_nodes.ensures lengths (c.in_ok-counter.ensures.lengths chunks are) ∙ ap (λ (ns : List TreeNode). ns ++ nodes_of_tree EXTENT_TREE c.in_ok-counter.counter.nodesize lengths rest) c.new-own.ensures in
    told c.merged.result (merged_nodes others c.add_nodes.new.nodes) c.merged.ensures
    (with_others others rest c.requires.nodes c.requires.slots c.requires.few (tree_nodes c.in_ok-counter.counter.nodesize lengths) c.add_nodes.new.nodes (ap addresses own ∙ tree_at EXTENT_TREE c.in_ok-counter.counter.nodesize lengths rest))
