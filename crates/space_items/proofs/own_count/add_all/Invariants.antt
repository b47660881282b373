use Rattle.space_items.proofs.Imports.{◌≡◌, ◌++◌, take}
use Rattle.space_items.proofs.own_count.add_all.Given as goal

abbrev pub invariant-loop-node : goal.invariant-loop-node
invariant-loop-node l = l.all ≡ l.initial.all ++ take l.node-index l.nodes
