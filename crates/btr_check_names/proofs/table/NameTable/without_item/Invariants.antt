use Rattle.btr_check_names.proofs.Imports.{◌≡◌, ◌<◌, ℕ, Bool, true, slice_index_or}
use Rattle.btr_check_names.proofs.table.NameTable.without_item.Given as goal

abbrev pub invariant-loop-i : goal.invariant-loop-i
invariant-loop-i l = (k : ℕ) (d : Bool) → k < l.i → slice_index_or l.self.hashed k d ≡ true
