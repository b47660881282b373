use Rattle.btr_node.proofs.Imports.{◌*◌, drop, ap, ◌∙◌, ITEM_SIZE, item_layout}
use Rattle.btr_node.proofs.Leaves.{head_there}
use Rattle.btr_node.proofs.leaf.head_at.Goals as goal

pub at-requires : goal.at-requires
at-requires c = rw c.behind_head.ensures (head_there c.args.bytes.now c.requires.layout c.args.i c.requires.within)

pub returns : goal.returns
returns c = c.at.ensures ∙ ap (λ s. item_layout.read (drop (ITEM_SIZE * c.args.i) s)) c.behind_head.ensures
