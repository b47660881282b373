use Rattle.btr_node.proofs.Imports.{◌<◌, get_or, length, sym, ap, ◌∙◌, arith, nritems, Item}
use Rattle.btr_node.proofs.Leaves.{length-items_in, item_at}
use Rattle.btr_node.proofs.leaf.LeafView.body.Goals as goal

pub data_at-requires-clause-within : goal.data_at-requires-clause-within
data_at-requires-clause-within c = omega (arith, length-items_in c.self.inside.bytes.now, ap length c.self.view_is, c.requires)

pub returns : goal.returns
returns c = λ other.
    let within : c.args.i < nritems c.self.inside.bytes.now = omega (arith, length-items_in c.self.inside.bytes.now, ap length c.self.view_is, c.requires) in
    c.data_at.ensures
    ∙ ap (λ (item : Item). item.1) (sym (item_at c.self.inside.bytes.now c.args.i within other) ∙ ap (λ items. get_or items c.args.i other) c.self.view_is)
