-- The links of a directory, where they stand together.
use Rattle.fs_paths.proofs.Imports.{◌≡◌, List, is_eq, arith, IsTotalOrder, IsNonDecreasingBy, ordering_index, nat_tests, nat_cmp_total, on_total, then_total, searchable_from_sorted, NodeLink, NodeId, same_node, node_cmp, AscendByDirectory}

pub node_cmp_total : IsTotalOrder node_cmp
node_cmp_total = then_total (on_total (λ (n : NodeId). n.space) nat_cmp_total) (on_total (λ (n : NodeId). n.number) nat_cmp_total)

pub same_node_cmp : (a b : NodeId) → same_node b a ≡ is_eq (node_cmp a b)
same_node_cmp a b = grind (arith, nat_tests)

pub rises : (links : List NodeLink) (dir : NodeId) → AscendByDirectory links → IsNonDecreasingBy (λ (link : NodeLink). ordering_index (node_cmp link.dir dir)) links
rises links dir ascend = searchable_from_sorted node_cmp_total (λ (link : NodeLink). link.dir) links dir ascend.sorted
