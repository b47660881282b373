use Rattle.btr_node.proofs.Imports.{◌≡◌, ◌*◌, length, drop, list_all, ITEM_SIZE, is_within, item_layout, records_in}
use Rattle.btr_node.proofs.areas.all_within.Given as goal

abbrev pub invariant-loop-i : goal.invariant-loop-i
invariant-loop-i l =
    let heads = records_in ITEM_SIZE item_layout l.count l.entries in
    let test = is_within (ITEM_SIZE * l.count) (length l.entries) in
    list_all test (drop l.i heads) ≡ list_all test heads
