use Rattle.btr_check_files.proofs.Imports.{◌≡◌, List, ◌++◌, map, take, IsPermutation, NamedEntry, entry_by, AreNames, hashed_of, told_of}
use Rattle.btr_check_files.proofs.name_pass.note_entries.Given as goal

abbrev pub invariant-loop-i : goal.invariant-loop-i
invariant-loop-i l = record {
  entries : l.table.entries ≡ l.fn.table.entries;
  told : told_of l.table ≡ told_of l.fn.table;
  noted : AreNames l.fn.table.entries → (met : List NamedEntry) → IsPermutation (hashed_of l.fn.table) met → IsPermutation (hashed_of l.table) (met ++ map (entry_by l.dir) (take l.i l.entries));
}
