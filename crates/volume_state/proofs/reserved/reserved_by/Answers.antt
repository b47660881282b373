use Rattle.volume_state.proofs.Lying.{by_copies}
use Rattle.volume_state.proofs.reserved.reserved_by.Goals as goal

pub returns-in-None : goal.returns-in-None
returns-in-None c = by_copies c.args.range.now c.args.address c.args.count c.args.blocks c.reserved_by_second.result (rw c.in-None.is at c.reserved_by_copy.ensures) c.reserved_by_second.ensures
