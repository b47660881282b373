use Rattle.btr_node.proofs.Imports.{◌≡◌, ◌-◌, drop, key_layout, ascends, records_in}
use Rattle.btr_node.proofs.order.keys_ascend.Given as goal

abbrev pub invariant-loop-i : goal.invariant-loop-i
invariant-loop-i l =
    let keys = records_in l.width key_layout l.count l.entries in
    ascends (drop (l.i - 1) keys) ≡ ascends keys
