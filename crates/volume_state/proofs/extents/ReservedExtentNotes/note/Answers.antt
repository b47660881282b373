use Rattle.volume_state.proofs.Imports.{refl, subst, HoldsExtent, TellsReserved, item_range}
use Rattle.volume_state.proofs.Extending.{found_more}
use Rattle.volume_state.proofs.extents.ReservedExtentNotes.note.Goals as goal

pub returns-in-None : goal.returns-in-None
returns-in-None c = λ begun items i key body leaf holds. (
  holds.0,
  holds.1,
  λ apart.
      found_more c.args.self.now.ranges.now c.args.self.now.blocks items i (item_range i) c.reserved_extent_of-self.result refl (c.reserved_extent_of-self.ensures i key body apart)
      (subst (TellsReserved (HoldsExtent items c.args.self.now.ranges.now) c.args.self.now.blocks) c.in-None.is (holds.2 apart)),
)
