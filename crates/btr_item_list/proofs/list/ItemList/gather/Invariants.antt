use Rattle.btr_item_list.proofs.Imports.{◌≡◌, slice_range, flat_map}
use Rattle.btr_item_list.proofs.list.ItemList.gather.Given as goal

abbrev pub invariant-loop-i : goal.invariant-loop-i
invariant-loop-i l = l.body.items ≡ flat_map (λ i. i.1) (slice_range l.self l.first l.i)
