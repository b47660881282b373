use Rattle.btr_reader_walk.proofs.Imports.{◌≤◌, List, length, ap, refl, arith, children_in, Child, fan_out}
use Rattle.btr_reader_walk.proofs.Contents.{few_children}
use Rattle.btr_reader_walk.proofs.node.open_inner.Goals as goal

pub push_children-requires : goal.push_children-requires
push_children-requires c =
    let few : length (children_in c.args.bytes.now) ≤ fan_out (length c.args.bytes.now) = few_children c.args.bytes.now (c.in-Ok.ensures.grammar.0 refl).layout in
    omega (arith, few, c.requires.room, ap (λ (cs : List Child). length cs) c.in-Ok.ensures.children)

pub returns-clause-few : goal.returns-clause-few
returns-clause-few c = few_children c.args.bytes.now (c.in-Ok.ensures.grammar.0 refl).layout
