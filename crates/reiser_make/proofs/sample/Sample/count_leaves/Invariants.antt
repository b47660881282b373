use Rattle.reiser_make.proofs.Imports.{◌≡◌, ◌+◌, length, leaves, leaves_of, items_behind}
use Rattle.reiser_make.proofs.sample.Sample.count_leaves.Given as goal

abbrev pub decreases-loop-leaf : goal.decreases-loop-leaf
decreases-loop-leaf l = length (items_behind l.self l.at)

abbrev pub invariant-loop-leaf : goal.invariant-loop-leaf
invariant-loop-leaf l = l.count + length (leaves_of (items_behind l.self l.at)) ≡ length (leaves l.self)
