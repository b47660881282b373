use Rattle.outside_mem.proofs.Imports.{◌≡◌, ℕ, nat_cmp, is_at, get, keys, lookup, keys_of, IsStrictlySortedBy, written, numbers_for, calls_of, bytes_at, torn_or}
use Rattle.outside_mem.proofs.crash.choose_torn.Given as goal

abbrev pub invariant-loop-n : goal.invariant-loop-n
invariant-loop-n l = record {
  all_ordered : IsStrictlySortedBy nat_cmp (keys l.undo);
  ordered : IsStrictlySortedBy nat_cmp (keys_of l.n-iterator);
  same : (q : ℕ) → torn_or (bytes_at l.blocks q) (written (calls_of l.calls) q) (numbers_for (keys_of l.n-iterator) l.numbers.rest.now q) (lookup (is_at (nat_cmp q)) l.n-iterator)
      ≡ torn_or (bytes_at l.initial.blocks q) (written (calls_of l.calls) q) (numbers_for (keys l.undo) l.choice q) (get nat_cmp l.undo q);
}
