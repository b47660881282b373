use Rattle.btr_check_names.proofs.Imports.{◌≡◌, ◌<◌, ℕ, Bool, true, slice_index_or, IndexEntry, names_inode_item}
use Rattle.btr_check_names.proofs.table.NameTable.without_ref.Given as goal

abbrev pub invariant-loop-i : goal.invariant-loop-i
invariant-loop-i l = (k : ℕ) → k < l.i → (e : IndexEntry) (d : Bool) → names_inode_item (slice_index_or l.self.entries k e) ≡ true → slice_index_or l.self.told k d ≡ true
