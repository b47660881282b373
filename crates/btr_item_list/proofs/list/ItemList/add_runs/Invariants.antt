use Rattle.btr_item_list.proofs.Imports.{◌≡◌, ◌≤◌, ◌++◌, ◌-◌, length, drop, joined}
use Rattle.btr_item_list.proofs.list.ItemList.add_runs.Given as goal

abbrev pub invariant-loop-next : goal.invariant-loop-next
invariant-loop-next l = record {
  within : l.next ≤ length l.records;
  built : l.self ++ joined l.objectid l.kind (drop l.next l.records) ≡ l.initial.self ++ joined l.objectid l.kind l.records;
}

abbrev pub decreases-loop-next : goal.decreases-loop-next
decreases-loop-next l = length l.records - l.next
