use Rattle.convert_trees.proofs.Adding.{fits_files, placed_in}
use Rattle.convert_trees.proofs.first.write_image.Goals as goal

pub returns-clause-tree : goal.returns-clause-tree
returns-clause-tree g c = λ tells other is has apart small writable.
    c.write_file_tree.ensures.tree tells other is (fits_files _ _ _ other has (c.in_ok-items.ensures.fits_blocks other)) apart _
    (c.in_ok-items.ensures.all small (placed_in _ _ other has) other) writable
