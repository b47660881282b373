use Rattle.convert_trees.proofs.Coming.{files_come}
use Rattle.convert_trees.proofs.sources.FileItemsItemSource.advance.Goals as goal

pub returns-clause-next : goal.returns-clause-next
returns-clause-next g c = λ tells image is fits.
    files_come _ _ _ _ _ _ _ image (λ item stands. stands) fits (c.advance.ensures.next tells image is fits.here.accepted fits.here.opened fits.here.placed fits.here.blocks)
