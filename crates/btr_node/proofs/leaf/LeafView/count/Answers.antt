use Rattle.btr_node.proofs.Imports.{length, sym, ap, ◌∙◌, Head}
use Rattle.btr_node.proofs.Leaves.{length-items_in}
use Rattle.btr_node.proofs.leaf.LeafView.count.Goals as goal

pub returns : goal.returns
returns c = ap (λ (h : Head). h.count) c.of.ensures ∙ sym (length-items_in c.self.inside.bytes.now) ∙ ap length c.self.view_is
