use Rattle.space_items.proofs.Imports.{◌≡◌, ◌++◌, take, nodes_at}
use Rattle.space_items.proofs.own_count.add_level.Given as goal

abbrev pub invariant-loop-address : goal.invariant-loop-address
invariant-loop-address l = l.nodes ≡ l.initial.nodes ++ nodes_at l.owner l.level (take l.address-index l.slots)
