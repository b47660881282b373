use Rattle.btr_tree.proofs.Imports.{◌≡◌, take, filled}
use Rattle.btr_tree.proofs.parents.make_parent.Given as goal

abbrev pub invariant-loop-child : goal.invariant-loop-child
invariant-loop-child l = l.nodes ≡ filled l.fn.nodes l.level l.address (take l.child-index l.part)
