use Rattle.btr_node.proofs.Imports.{◌≡◌, ◌+◌, drop, list_all, ITEM_SIZE, are_apart, item_layout, records_in}
use Rattle.btr_node.proofs.areas.apart_from_later.Given as goal

abbrev pub invariant-loop-j : goal.invariant-loop-j
invariant-loop-j l =
    let heads = records_in ITEM_SIZE item_layout l.count l.entries in
    list_all (are_apart l.head) (drop l.j heads) ≡ list_all (are_apart l.head) (drop (l.i + 1) heads)
