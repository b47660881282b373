use Rattle.btr_check_references.proofs.Imports.{◌≡◌, ◌+◌, Contains, List, ap, subst, get_or, length, true, arith, Contains-get_or, NodeRange, NodeState, Unmet, is_unowned}
use Rattle.btr_check_references.proofs.Blocks.{all_owned, one_unowned}
use Rattle.btr_check_references.proofs.node_table.NodeMap.unowned.Goals as goal

pub returns-in-Some : goal.returns-in-Some
returns-in-Some c =
    let none : NodeRange = record { first = 0; count = 0; slot = 0 } in
    let found = get_or c.deref-range-items.result.now c.loop-range.range-index none in
    let among = subst (λ (rs : List NodeRange). Contains rs found) c.deref-range-items.ensures.value (Contains-get_or c.deref-range-items.result.now c.loop-range.range-index none c.loop-range-test.true) in
    let state = subst (λ (states : List NodeState). is_unowned (get_or states (found.slot + c.in-Some.i) Unmet) ≡ true) c.as_slice.ensures.value c.in-Some.ensures.1 in
    one_unowned c.args.self.now.ranges.items c.args.self.now.states.items found c.in-Some.i c.args.self.now.placed among c.in-Some.ensures.0 state

pub returns : goal.returns
returns c = all_owned c.args.self.now.ranges.items c.args.self.now.states.items (λ k d within. c.loop-range.invariant k d (let long = ap length c.deref-range-items.ensures.value in omega (arith, long, within, c.loop-range-test.false)))
