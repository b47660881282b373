use Rattle.space_items.proofs.Imports.{tree_levels}
use Rattle.space_items.proofs.Levels.{IsAdding}
use Rattle.space_items.proofs.own_count.add_nodes.Given as goal

abbrev pub invariant-loop-level : goal.invariant-loop-level
invariant-loop-level l = IsAdding l.owner l.first l.fn.slots (tree_levels l.counter.nodesize l.counter.leaves) l.initial.nodes l.nodes l.level l.at
