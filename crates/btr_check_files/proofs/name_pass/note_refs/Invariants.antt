use Rattle.btr_check_files.proofs.Imports.{◌≡◌, List, ◌++◌, map, take, IsPermutation, BackName, AreNames, hashed_of, told_of, ref_name}
use Rattle.btr_check_files.proofs.name_pass.note_refs.Given as goal

abbrev pub invariant-loop-i : goal.invariant-loop-i
invariant-loop-i l = record {
  entries : l.table.entries ≡ l.fn.table.entries;
  hashed : hashed_of l.table ≡ hashed_of l.fn.table;
  noted : AreNames l.fn.table.entries → (met : List BackName) → IsPermutation (told_of l.fn.table) met → IsPermutation (told_of l.table) (met ++ map (ref_name l.inode l.dir) (take l.i l.names));
}
