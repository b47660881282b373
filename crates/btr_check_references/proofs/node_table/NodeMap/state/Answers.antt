use Rattle.btr_check_references.proofs.Imports.{◌≡◌, ◌∙◌, List, length, Some, ap, sym, arith, rules, get_or_default, NodeRange, NodeState, Unmet, slot_in}
use Rattle.btr_check_references.proofs.Blocks.{slot_inside, state_by}
use Rattle.btr_check_references.proofs.node_table.NodeMap.state.Goals as goal

pub index-requires : goal.index-requires
index-requires c =
    let at : slot_in c.args.self.now.ranges.items c.args.block ≡ Some c.in-Some.slot = sym (c.in-Some.ensures ∙ ap (λ (rs : List NodeRange). slot_in rs c.args.block) c.as_slice.ensures.value) in
    let within = slot_inside c.args.self.now.ranges.items (length c.args.self.now.states.items) c.args.block c.in-Some.slot c.args.self.now.placed.inside at in
    let long : length c.args.self.now.states.items ≡ c.args.self.now.states.len = search rules in
    omega (arith, within, long)

pub returns-in-Some : goal.returns-in-Some
returns-in-Some c =
    let at : slot_in c.args.self.now.ranges.items c.args.block ≡ Some c.in-Some.slot = sym (c.in-Some.ensures ∙ ap (λ (rs : List NodeRange). slot_in rs c.args.block) c.as_slice.ensures.value) in
    let within = slot_inside c.args.self.now.ranges.items (length c.args.self.now.states.items) c.args.block c.in-Some.slot c.args.self.now.placed.inside at in
    ap (λ (s : NodeState). Some s) (c.index.ensures ∙ get_or_default c.args.self.now.states.items c.in-Some.slot c.index.result.now Unmet within) ∙ sym (ap (state_by c.args.self.now.states.items) at)
