use Rattle.btr_reader_walk.proofs.Subtrees.{leaves_give_items as from_damages}
use Rattle.btr_reader_walk.proofs.laws.leaves_give_items.Goals as goal

pub returns : goal.returns
returns c = from_damages c.damages_tell.ensures
