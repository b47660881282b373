use Rattle.reiser_make.proofs.Imports.{◌≡◌, ◌*◌, length, map, range_with_len, with_dots, file_entry, entries_so_far, AreShortNames, root_id, directory_id}
use Rattle.reiser_make.proofs.directory.put_directory.Given as goal

abbrev pub invariant-loop-i : goal.invariant-loop-i
invariant-loop-i l = record {
  short : AreShortNames (with_dots (directory_id l.k) root_id (map (file_entry l.number) (range_with_len (100 * l.k) l.i)));
  put : l.into ≡ entries_so_far (length l.initial.into) (with_dots (directory_id l.k) root_id (map (file_entry l.number) (range_with_len (100 * l.k) l.i)));
}
