use Rattle.btr_tree.proofs.Sizes.{IsLevel}
use Rattle.btr_tree.proofs.levels.nodes_at.Given as goal

abbrev pub invariant-loop : goal.invariant-loop
invariant-loop l = IsLevel l.fan_out l.leaves l.level l.counter l.nodes
