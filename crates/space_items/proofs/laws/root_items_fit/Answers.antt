use Rattle.space_items.proofs.Ordered.{root_items_fit}
use Rattle.space_items.proofs.laws.root_items_fit.Goals as goal

pub returns : goal.returns
returns c = root_items_fit
