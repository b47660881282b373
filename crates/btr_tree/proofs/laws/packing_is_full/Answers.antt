use Rattle.btr_tree.proofs.FullGroups.{packing_full}
use Rattle.btr_tree.proofs.laws.packing_is_full.Goals as goal

pub returns : goal.returns
returns c = packing_full
