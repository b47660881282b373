use Rattle.convert_trees.proofs.Imports.{refl}
use Rattle.convert_trees.proofs.Coming.{ends_within, item_comes}
use Rattle.convert_trees.proofs.Sums.{sums_fit}
use Rattle.convert_trees.proofs.sources.SumItemsItemSource.advance.Goals as goal

pub advance-requires-clause-inside : goal.advance-requires-clause-inside
advance-requires-clause-inside g c = ends_within _ _ c.requires.inside

pub returns-clause-next : goal.returns-clause-next
returns-clause-next g c = λ tells image is fits. (sums_fit _ _ image, item_comes _ _ _ _ _ _ refl (c.in_ok-advance.ensures.next tells image is))
