use Rattle.space_items.proofs.OwnLaws.{own_nodes_are_needed_so}
use Rattle.space_items.proofs.own_laws.own_nodes_are_needed.Goals as goal

pub returns : goal.returns
returns c = own_nodes_are_needed_so
