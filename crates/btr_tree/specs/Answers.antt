-- Why a tree was not written.
use Rattle.btr_tree.specs.declared.answer.NodeAnswer.{NodeAnswer}
use Rattle.btr_tree.specs.declared.answer.NodeAnswer.TheVariants.{OutOfSlots as NoSlot, Memory as NoMemory}
use Rattle.btr_tree.specs.declared.answer.TreeAnswer.{TreeAnswer}
use Rattle.btr_tree.specs.declared.answer.TreeAnswer.TheVariants.{OutOfSlots, Memory}

-- a node that was not made is a tree that was not written
abbrev pub tree_answer : NodeAnswer → TreeAnswer
tree_answer NoSlot = OutOfSlots
tree_answer NoMemory = Memory
