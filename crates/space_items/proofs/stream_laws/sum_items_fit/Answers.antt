use Rattle.space_items.proofs.StreamOrder.{sum_items_fit}
use Rattle.space_items.proofs.stream_laws.sum_items_fit.Goals as goal

pub returns : goal.returns
returns c = sum_items_fit
