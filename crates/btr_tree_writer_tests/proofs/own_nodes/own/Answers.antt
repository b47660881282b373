use Rattle.btr_tree_writer_tests.proofs.Imports.{◌≡◌, inl, ℕ, List, ◌≤◌, length, map, refl, arith, subst, sym, ◌∙◌, ap, map-id, FS_TREE, AreChunks, FitsVolume, AreNodes, nodes_at, TreeNode}
use Rattle.std.proofs.lemmas.List.{length-map}
use Rattle.btr_tree.specs.Counting.{node_bound}
use Rattle.unit_plan.specs.declared.chunk.PlannedChunk.{PlannedChunk}
use Rattle.unit_plan.specs.declared.piece.Piece.{Piece}
use Rattle.unit_plan.specs.declared.plan.Plan.{Plan}
use Rattle.space_items.specs.Own.{extent_bytes, own_bound}
use Rattle.space_items.proofs.Ascending.{Ascend, nodes_ascend}
use Rattle.space_items.proofs.Levels.{map-map}
use Rattle.space_items.proofs.OwnBound.{bound_up}
use Rattle.space_items.proofs.Tallying.{few_chunks}
use Rattle.btr_tree_writer_tests.proofs.own_nodes.own.Goals as goal

long : (slots : List ℕ) → length (nodes_at FS_TREE 0 slots) ≡ length slots
long slots = length-map {B = TreeNode} slots (λ a. record { address = a; level = 0; owner = FS_TREE })

pub own_nodes-requires-clause-units : goal.own_nodes-requires-clause-units
own_nodes-requires-clause-units c =
    subst (λ (n : ℕ). FitsVolume c.in_ok-plan.plan n) (sym c.len-blocks.ensures)
    (c.plans_fit.ensures c.loop-b.map (record { system = 1; metadata = 2; data_ = 1 }) c.in_ok-plan.plan c.in_ok-plan.ensures.enough c.in_ok-plan.ensures.ok)

leaves_at : (slots : List ℕ) (nodes : List TreeNode) → nodes ≡ nodes_at FS_TREE 0 slots → Ascend slots → length slots ≡ 200 → AreNodes nodes
leaves_at slots nodes is up many =
    subst AreNodes (sym is)
    (record {
      ascending = nodes_ascend (nodes_at FS_TREE 0 slots) (subst Ascend (sym (map-map (λ (m : TreeNode). m.address) (λ a. record { address = a; level = 0; owner = FS_TREE }) slots ∙ map-id slots)) up);
      few = omega (arith, long slots, many);
    })

pub own_nodes-requires-clause-nodes : goal.own_nodes-requires-clause-nodes
own_nodes-requires-clause-nodes c = leaves_at c.in_ok-row.field-0 c.in_ok-others.others c.in_ok-others.ensures c.in_ok-row.ensures.order c.in_ok-row.ensures.long

bound_is : (chunks : List PlannedChunk) (pieces : List Piece) (others : List TreeNode) (plan : Plan) (blocks : ℕ) → blocks ≤ 12288 → AreChunks plan blocks chunks → length pieces ≡ 1 → length others ≡ 200 → own_bound chunks pieces others 4096 ≤ 1000
bound_is chunks pieces others plan blocks small are one many =
    let up : node_bound (extent_bytes (length pieces) (length chunks) (length others)) 4096 ≤ node_bound 613819 4096 = bound_up (extent_bytes (length pieces) (length chunks) (length others)) 613819 4096 (inl refl) (omega (arith, few_chunks plan blocks chunks are, small, one, many)) in
    omega (arith, up)

pub own_nodes-requires-clause-enough : goal.own_nodes-requires-clause-enough
own_nodes-requires-clause-enough c = λ chunks are.
    let bound = bound_is chunks c.tail-pieces.result.items c.in_ok-others.others c.in_ok-plan.plan c.len-blocks.result (omega arith) are c.tail-pieces.ensures.one (ap (λ (ns : List TreeNode). length ns) c.in_ok-others.ensures ∙ (long c.in_ok-row.field-0 ∙ c.in_ok-row.ensures.long)) in
    omega (arith, bound, c.in_ok-rest.ensures.long)

pub with_own-requires-clause-units : goal.with_own-requires-clause-units
with_own-requires-clause-units c =
    subst (λ (n : ℕ). FitsVolume c.in_ok-plan.plan n) (sym c.len-blocks.ensures)
    (c.plans_fit.ensures c.loop-b.map (record { system = 1; metadata = 2; data_ = 1 }) c.in_ok-plan.plan c.in_ok-plan.ensures.enough c.in_ok-plan.ensures.ok)

pub with_own-requires-clause-nodes : goal.with_own-requires-clause-nodes
with_own-requires-clause-nodes c = leaves_at c.in_ok-row.field-0 c.in_ok-others.others c.in_ok-others.ensures c.in_ok-row.ensures.order c.in_ok-row.ensures.long
