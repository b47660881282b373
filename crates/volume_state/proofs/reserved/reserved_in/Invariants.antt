use Rattle.volume_state.proofs.Imports.{take}
use Rattle.volume_state.proofs.Lying.{LieNowhere}
use Rattle.volume_state.proofs.reserved.reserved_in.Given as goal

abbrev pub invariant-loop-range : goal.invariant-loop-range
invariant-loop-range l = LieNowhere (take l.range-index l.ranges) l.address l.count l.blocks
