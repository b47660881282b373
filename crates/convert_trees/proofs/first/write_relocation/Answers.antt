use Rattle.convert_trees.proofs.Adding.{fits_files}
use Rattle.convert_trees.proofs.first.write_relocation.Goals as goal

pub returns-clause-tree : goal.returns-clause-tree
returns-clause-tree g c = λ tells other is has apart writable.
    c.write_file_tree.ensures.tree tells other is (fits_files _ _ _ other has (c.in_ok-items.ensures.fits_blocks _ other)) apart _ (c.in_ok-items.ensures.all _ _ other) writable

pub write_file_tree-requires-clause-live : goal.write_file_tree-requires-clause-live
write_file_tree-requires-clause-live g c = record { unspent = c.in_ok-items.ensures.live; fits = c.in_ok-items.ensures.fits _ _ }
