use Rattle.btr_check_names.proofs.Imports.{◌<◌, ℕ, slice_index_or, IndexEntry, NoneNamedBut}
use Rattle.btr_check_names.proofs.table.NameTable.repeated.Given as goal

abbrev pub invariant-loop-i : goal.invariant-loop-i
invariant-loop-i l = (k : ℕ) → k < l.i → (d : IndexEntry) → NoneNamedBut l.self.entries k (slice_index_or l.self.entries k d).entry.dir (slice_index_or l.self.entries k d).entry.name
