use Rattle.volume_state.proofs.Imports.{◌≡◌, IsTrue, nodes_fuel, IsMapApart}
use Rattle.volume_state.proofs.Meeting.{IsAhead}
use Rattle.volume_state.proofs.nodes.reserved_node.Given as goal

abbrev pub invariant-loop-entry : goal.invariant-loop-entry
invariant-loop-entry g l = record {
  kept : g.S.BlockSource.kept l.fn.src l.src;
  same : g.S.BlockSource.faults l.src ≡ g.S.BlockSource.faults l.fn.src;
  ahead : IsTrue g.S.BlockSource.tells → IsMapApart l.ranges → IsAhead (g.S.BlockSource.blocks l.fn.src) l.ranges l.tree l.blocks l.walker;
}

abbrev pub decreases-loop-entry : goal.decreases-loop-entry
decreases-loop-entry g l = nodes_fuel l.walker
