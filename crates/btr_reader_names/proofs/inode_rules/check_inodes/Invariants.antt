use Rattle.btr_reader_names.proofs.Imports.{ℕ, ◌<◌, get_or, NodeId, IsGoodNode}
use Rattle.btr_reader_names.proofs.inode_rules.check_inodes.Given as goal

abbrev pub invariant-loop-node : goal.invariant-loop-node
invariant-loop-node l = (k : ℕ) (d : NodeId) → k < l.node-index → IsGoodNode l.names (get_or l.node-items k d)
