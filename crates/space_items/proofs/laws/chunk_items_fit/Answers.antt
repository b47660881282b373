use Rattle.space_items.proofs.Ordered.{chunk_items_fit}
use Rattle.space_items.proofs.laws.chunk_items_fit.Goals as goal

pub returns : goal.returns
returns c = chunk_items_fit
