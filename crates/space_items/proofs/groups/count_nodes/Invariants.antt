use Rattle.space_items.proofs.Imports.{◌≡◌, ◌+◌, ◌-◌, ◌*◌, length, take, LieBefore}
use Rattle.space_items.proofs.Counting.{counted}
use Rattle.space_items.proofs.groups.count_nodes.Given as goal

abbrev pub invariant-loop-next : goal.invariant-loop-next
invariant-loop-next l = record {
  chunk : l.group.chunk ≡ l.initial.group.chunk;
  used : l.group.used ≡ l.initial.group.used + counted (λ n. n.address) (λ n. l.nodesize) (4096 * l.initial.group.chunk.start) (4096 * (l.initial.group.chunk.start + l.initial.group.chunk.length)) (take l.next l.nodes);
  before : LieBefore (λ n. n.address) (4096 * (l.initial.group.chunk.start + l.initial.group.chunk.length)) l.nodes l.next;
}

abbrev pub decreases-loop-next : goal.decreases-loop-next
decreases-loop-next l = length l.nodes - l.next
