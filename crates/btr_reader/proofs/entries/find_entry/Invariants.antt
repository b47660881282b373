use Rattle.btr_reader.proofs.Imports.{◌≡◌, List, [], false, IsTrue, TreeItem, Walks, fuel, entry_named, is_called, is_root_directory, index_refusals, dir_indexes, HasSeen}
use Rattle.btr_reader.proofs.entries.find_entry.Given as goal

abbrev pub invariant-loop-walker : goal.invariant-loop-walker
invariant-loop-walker g l = record {
  kept : g.S.BlockSource.kept l.fn.src l.src;
  same : g.S.BlockSource.faults l.src ≡ g.S.BlockSource.faults l.fn.src;
  tree : l.walker.tree ≡ l.fn.tree;
  fresh : l.walker.spent ≡ false;
  walks : IsTrue g.S.BlockSource.tells → (given : List TreeItem) × Walks l.walker (g.S.BlockSource.blocks l.fn.src) l.ranges given × (l.first ≡ entry_named (is_called l.name) (dir_indexes given)) × (index_refusals given ≡ []) × HasSeen is_root_directory l.seen (dir_indexes given) × g.N.Notes.holds l.fn.notes l.notes given × g.M.Notes.holds l.fn.others l.others given;
}

abbrev pub decreases-loop-walker : goal.decreases-loop-walker
decreases-loop-walker g l = fuel l.walker
