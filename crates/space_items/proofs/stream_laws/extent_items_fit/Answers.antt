use Rattle.space_items.proofs.StreamOrder.{extent_items_fit}
use Rattle.space_items.proofs.stream_laws.extent_items_fit.Goals as goal

pub returns : goal.returns
returns c = extent_items_fit
