use Rattle.reiser_items.proofs.Imports.{◌≡◌, ◌+◌, ◌-◌, ◌≤◌, length, drop, is_of_name}
use Rattle.std.specs.List.{prefix_len}
use Rattle.reiser_items.proofs.entries.until_zero.Given as goal

abbrev pub invariant-loop-end : goal.invariant-loop-end
invariant-loop-end l = record {
  within : l.end ≤ length l.bytes;
  before : prefix_len is_of_name l.bytes ≡ l.end + prefix_len is_of_name (drop l.end l.bytes);
}

abbrev pub decreases-loop-end : goal.decreases-loop-end
decreases-loop-end l = length l.bytes - l.end
