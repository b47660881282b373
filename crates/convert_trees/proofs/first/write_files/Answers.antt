use Rattle.convert_trees.proofs.Adding.{fits_files}
use Rattle.convert_trees.proofs.first.write_files.Goals as goal

pub returns-clause-tree : goal.returns-clause-tree
returns-clause-tree g c = λ tells other is has apart writable.
    c.write_file_tree.ensures.tree tells other is (fits_files _ _ _ other has (c.in_ok-items.ensures.fits_blocks other has.accepted has.opened)) apart _ (c.in_ok-items.ensures.all other) writable
