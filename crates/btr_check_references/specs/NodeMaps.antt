-- What a map of nodes tells of a block.
use Rattle.std.specs.Prelude.{ℕ, Option}
use Rattle.btr_check_references.specs.declared.node_state.NodeState.{NodeState}
use Rattle.btr_check_references.specs.declared.node_table.NodeMap.{NodeMap}
use Rattle.btr_check_references.specs.NodeRanges.{state_in}

abbrev pub state_at : NodeMap → ℕ → Option NodeState
state_at m b = state_in m.ranges.items m.states.items b
