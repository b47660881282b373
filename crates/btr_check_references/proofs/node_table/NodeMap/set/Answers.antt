use Rattle.btr_check_references.proofs.Imports.{◌≡◌, ◌∙◌, List, length, Some, ap, sym, arith, rules, NodeRange, slot_in}
use Rattle.btr_check_references.proofs.Blocks.{noted, slot_inside}
use Rattle.btr_check_references.proofs.node_table.NodeMap.set.Goals as goal

pub index_mut-requires : goal.index_mut-requires
index_mut-requires c =
    let at : slot_in c.args.self.now.ranges.items c.args.block ≡ Some c.in-Some.slot = sym (c.in-Some.ensures ∙ ap (λ (rs : List NodeRange). slot_in rs c.args.block) c.as_slice.ensures.value) in
    let within = slot_inside c.args.self.now.ranges.items (length c.args.self.now.states.items) c.args.block c.in-Some.slot c.args.self.now.placed.inside at in
    let long : length c.args.self.now.states.items ≡ c.args.self.now.states.len = search rules in
    omega (arith, within, long)

pub returns-in-Some : goal.returns-in-Some
returns-in-Some c = λ b.
    let at : slot_in c.args.self.now.ranges.items c.args.block ≡ Some c.in-Some.slot = sym (c.in-Some.ensures ∙ ap (λ (rs : List NodeRange). slot_in rs c.args.block) c.as_slice.ensures.value) in
    noted c.args.self.now.ranges.items c.args.self.now.states.items c.args.block c.in-Some.slot c.args.state b c.args.self.now.placed at
