use Rattle.btr_reader_names.proofs.Imports.{ℕ, ◌<◌, get_or, nat_eq, DirIndex, contains, same_node, IsGoodEntry, is_open}
use Rattle.btr_reader_names.proofs.entry_rules.check_entries.Given as goal

abbrev pub invariant-loop-naming : goal.invariant-loop-naming
invariant-loop-naming l = (k : ℕ) (d : DirIndex) → k < l.naming-index → IsGoodEntry l.names (is_open l.names (contains same_node l.named)) (contains nat_eq l.roots) (get_or l.names.namings.items k d)
