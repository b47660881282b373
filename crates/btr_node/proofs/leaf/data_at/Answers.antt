use Rattle.btr_node.proofs.Imports.{◌≤◌, ◌+◌, length, arith}
use Rattle.btr_node.proofs.Leaves.{head_within}
use Rattle.btr_node.proofs.leaf.data_at.Goals as goal

pub slice_bounds-result-end : goal.slice_bounds-result-end
slice_bounds-result-end c =
    let there : c.head_at-head.result.offset + c.head_at-head.result.size ≤ length c.behind_head.result.now =
    rw (c.head_at-head.ensures, c.behind_head.ensures) (head_within c.args.bytes.now c.requires.layout c.args.i c.requires.within).ends in
    omega (arith, there)
