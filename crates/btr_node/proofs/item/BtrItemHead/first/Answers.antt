use Rattle.btr_node.proofs.Imports.{key_layout, item_layout}
use Rattle.btr_node.proofs.item.BtrItemHead.first.Goals as goal

pub returns : goal.returns
unfolding item_layout key_layout
returns c = λ i. record { key = c.at.ensures i; offset = c.u32_at.ensures i; size = c.u32_at-2.ensures i }
