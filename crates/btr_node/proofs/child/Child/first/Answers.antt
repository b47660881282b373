use Rattle.btr_node.proofs.Imports.{key_layout, child_layout}
use Rattle.btr_node.proofs.child.Child.first.Goals as goal

pub returns : goal.returns
unfolding child_layout key_layout
returns c = λ i. record { key = c.at.ensures i; address = c.u64_at.ensures i; generation = c.u64_at-2.ensures i }
