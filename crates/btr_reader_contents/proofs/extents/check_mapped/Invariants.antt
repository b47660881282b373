use Rattle.btr_reader_contents.proofs.Imports.{◌≡◌, ◌+◌, ◌-◌, ◌*◌, unmapped_in}
use Rattle.btr_reader_contents.proofs.extents.check_mapped.Given as goal

abbrev pub invariant-loop-i : goal.invariant-loop-i
invariant-loop-i l = unmapped_in l.ranges l.count l.address ≡ unmapped_in l.ranges (l.count - l.i) (l.address + 4096 * l.i)
