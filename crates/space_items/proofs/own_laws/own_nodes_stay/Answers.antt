use Rattle.space_items.proofs.Staying.{own_nodes_stay_so}
use Rattle.space_items.proofs.own_laws.own_nodes_stay.Goals as goal

pub returns : goal.returns
returns c = own_nodes_stay_so
