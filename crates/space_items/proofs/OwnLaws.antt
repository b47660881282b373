-- The extent tree's own nodes were counted in the needed space.
use Rattle.space_items.proofs.Imports.{ℕ, ◌+◌, ◌*◌, ◌≤◌, length, arith, BLOCK_GROUP_BYTES, EXTENT_BYTES, NODE_BYTES, node_bound, extent_bytes}
use Rattle.unit_plan.specs.Needed.{chunk_bound, chunk_nodes, extent_tree_bytes, other_nodes}
use Rattle.space_items.specs.OwnLaws.{OwnNodesAreNeeded}
use Rattle.space_items.proofs.OwnBound.{bound_up}

pub own_nodes_are_needed_so : OwnNodesAreNeeded
own_nodes_are_needed_so = λ o c chunks pieces others size few_pieces few_chunks few_others.
    let up : node_bound (extent_bytes (length pieces) (length chunks) (length others)) o.nodesize ≤ node_bound (extent_tree_bytes o c) o.nodesize =
    bound_up (extent_bytes (length pieces) (length chunks) (length others)) (extent_tree_bytes o c) o.nodesize size (by_parts (length pieces) c.pieces (length chunks) (chunk_bound c.runs c.blocks) (length others) (other_nodes o c + chunk_nodes o c) few_pieces few_chunks few_others) in
    twice (node_bound (extent_bytes (length pieces) (length chunks) (length others)) o.nodesize) (node_bound (extent_tree_bytes o c) o.nodesize) up
  where
    by_parts : (p p' q q' n n' : ℕ) → p ≤ p' → q ≤ q' → n ≤ n' → EXTENT_BYTES * p + BLOCK_GROUP_BYTES * q + NODE_BYTES * n ≤ EXTENT_BYTES * p' + BLOCK_GROUP_BYTES * q' + NODE_BYTES * n'
    by_parts p p' q q' n n' a b c = omega arith

    twice : (a b : ℕ) → a ≤ b → 2 * a + 16 ≤ 2 * b + 16
    twice a b h = omega arith
