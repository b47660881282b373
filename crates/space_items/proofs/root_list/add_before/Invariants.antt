use Rattle.space_items.proofs.Imports.{◌≡◌, ◌≤◌, ◌<◌, ◌-◌, ◌++◌, ℕ, length, slice_range, slice_index_or, IsBefore, Item}
use Rattle.space_items.proofs.root_list.add_before.Given as goal

abbrev pub invariant-loop-next : goal.invariant-loop-next
invariant-loop-next l = record {
  low : l.first ≤ l.next;
  within : l.next ≤ length l.others;
  added : l.items ≡ l.initial.items ++ slice_range l.others l.first l.next;
  before : (k : ℕ) (d : Item) → l.first ≤ k → k < l.next → IsBefore (slice_index_or l.others k d).0 l.key;
}

abbrev pub decreases-loop-next : goal.decreases-loop-next
decreases-loop-next l = length l.others - l.next
