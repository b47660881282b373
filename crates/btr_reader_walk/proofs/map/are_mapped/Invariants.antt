use Rattle.btr_reader_walk.proofs.Imports.{◌≡◌, ◌-◌, ◌+◌, ◌*◌, are_mapped}
use Rattle.btr_reader_walk.proofs.map.are_mapped.Given as goal

abbrev pub invariant-loop-i : goal.invariant-loop-i
invariant-loop-i l = are_mapped l.ranges (l.count - l.i) (l.address + 4096 * l.i) ≡ are_mapped l.ranges l.count l.address
