use Rattle.btr_tree.proofs.Going.{stands_by_slots}
use Rattle.btr_tree.proofs.laws.stands_by_slots.Goals as goal

pub returns : goal.returns
returns c = stands_by_slots
