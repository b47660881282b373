use Rattle.free_space.proofs.Fitting.{free_items_fit}
use Rattle.free_space.proofs.laws.free_items_fit.Goals as goal

pub returns : goal.returns
returns c = free_items_fit
