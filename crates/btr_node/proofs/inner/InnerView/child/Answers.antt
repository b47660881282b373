use Rattle.btr_node.proofs.Imports.{◌<◌, get_or, length, sym, ap, ◌∙◌, arith, nritems}
use Rattle.btr_node.proofs.Inners.{length-children_in, child_there}
use Rattle.btr_node.proofs.inner.InnerView.child.Goals as goal

pub child_at-requires-clause-within : goal.child_at-requires-clause-within
child_at-requires-clause-within c = omega (arith, length-children_in c.self.inside.bytes.now, ap length c.self.view_is, c.requires)

pub returns : goal.returns
returns c = λ other.
    let within : c.args.i < nritems c.self.inside.bytes.now = omega (arith, length-children_in c.self.inside.bytes.now, ap length c.self.view_is, c.requires) in
    c.child_at.ensures ∙ sym (child_there c.self.inside.bytes.now c.args.i within other) ∙ ap (λ children. get_or children c.args.i other) c.self.view_is
