use Rattle.reiser_make.proofs.Imports.{◌≡◌, length, map, range_with_len, with_dots, directory_entry, entries_so_far, AreShortNames, root_id, above_root}
use Rattle.reiser_make.proofs.directory.put_root.Given as goal

abbrev pub invariant-loop-k : goal.invariant-loop-k
invariant-loop-k l = record {
  short : AreShortNames (with_dots root_id above_root (map directory_entry (range_with_len 0 l.k)));
  put : l.into ≡ entries_so_far (length l.initial.into) (with_dots root_id above_root (map directory_entry (range_with_len 0 l.k)));
}
