use Rattle.btr_node.proofs.Imports.{◌≡◌, ◌*◌, length, drop, ITEM_SIZE, descends, item_layout, records_in}
use Rattle.btr_node.proofs.areas.descends.Given as goal

abbrev pub invariant-loop-i : goal.invariant-loop-i
invariant-loop-i l =
    let heads = records_in ITEM_SIZE item_layout l.count l.entries in
    descends (ITEM_SIZE * l.count) l.end (drop l.i heads) ≡ descends (ITEM_SIZE * l.count) (length l.entries) heads
