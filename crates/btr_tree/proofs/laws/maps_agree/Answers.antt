use Rattle.btr_tree.proofs.Maps.{agree}
use Rattle.btr_tree.proofs.laws.maps_agree.Goals as goal

pub returns : goal.returns
returns c = agree
