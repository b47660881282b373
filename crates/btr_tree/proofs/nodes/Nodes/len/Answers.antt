use Rattle.btr_tree.proofs.Imports.{◌+◌, sym, ◌∙◌, ap, taken}
use Rattle.btr_tree.proofs.PiecesOf.{length-pieces_of}
use Rattle.btr_tree.proofs.nodes.Nodes.len.Goals as goal

pub returns : goal.returns
returns c = sym (sym (ap taken c.self.view_is) ∙ ap (λ n. c.self.inside.written + n) (length-pieces_of c.self.inside.form.nodesize c.self.inside.held c.self.inside.bytes.items))
