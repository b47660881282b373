use Rattle.reiser_volume_objects.proofs.Imports.{◌≡◌, ◌++◌, map, filter, take, is_listed, naming_by}
use Rattle.reiser_volume_objects.proofs.table.note_all.Given as goal

abbrev pub invariant-loop-i : goal.invariant-loop-i
invariant-loop-i l = l.namings.items ≡ l.fn.namings.items ++ map (naming_by l.leaf l.dir) (filter is_listed (take l.i l.entries))
