use Rattle.btr_item_list.proofs.Imports.{◌≡◌, ◌≤◌, ◌<◌, ◌-◌, ℕ, length, slice_index_or, Item, offset_of}
use Rattle.btr_item_list.proofs.list.ItemList.run_end.Given as goal

abbrev pub invariant-loop-end : goal.invariant-loop-end
invariant-loop-end l = record {
  some : l.first < l.end;
  within : l.end ≤ length l.self;
  same : (k : ℕ) (d : Item) → l.first ≤ k → k < l.end → offset_of (slice_index_or l.self k d) ≡ l.offset;
}

abbrev pub decreases-loop-end : goal.decreases-loop-end
decreases-loop-end l = length l.self - l.end
