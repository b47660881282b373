use Rattle.btr_node.proofs.Imports.{◌≡◌, drop, ITEM_SIZE, all_apart, item_layout, records_in}
use Rattle.btr_node.proofs.areas.all_apart.Given as goal

abbrev pub invariant-loop-i : goal.invariant-loop-i
invariant-loop-i l =
    let heads = records_in ITEM_SIZE item_layout l.count l.entries in
    all_apart (drop l.i heads) ≡ all_apart heads
