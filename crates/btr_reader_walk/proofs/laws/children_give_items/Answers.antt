use Rattle.btr_reader_walk.proofs.Subtrees.{children_give_items as from_damages}
use Rattle.btr_reader_walk.proofs.laws.children_give_items.Goals as goal

pub returns : goal.returns
returns c = from_damages c.damages_tell.ensures
