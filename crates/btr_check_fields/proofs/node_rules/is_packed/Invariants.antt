use Rattle.btr_check_fields.proofs.Imports.{drop, ITEM_SIZE, is_packed}
use Rattle.std.specs.Prelude.{◌≡◌, length}
use Rattle.btr_node.specs.Leaf.{item_layout}
use Rattle.btr_node.specs.Records.{records_in}
use Rattle.btr_check_fields.proofs.node_rules.is_packed.Given as goal

abbrev pub invariant-loop-i : goal.invariant-loop-i
invariant-loop-i l =
    let heads = records_in ITEM_SIZE item_layout l.count l.entries in is_packed l.end (drop l.i heads) ≡ is_packed (length l.entries) heads
