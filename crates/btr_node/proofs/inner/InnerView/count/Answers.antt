use Rattle.btr_node.proofs.Imports.{length, sym, ap, ◌∙◌, Head}
use Rattle.btr_node.proofs.Inners.{length-children_in}
use Rattle.btr_node.proofs.inner.InnerView.count.Goals as goal

pub returns : goal.returns
returns c = ap (λ (h : Head). h.count) c.of.ensures ∙ sym (length-children_in c.self.inside.bytes.now) ∙ ap length c.self.view_is
