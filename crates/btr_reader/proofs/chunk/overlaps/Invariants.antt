use Rattle.btr_reader.proofs.Imports.{◌≡◌, drop, list_any, overlap}
use Rattle.btr_reader.proofs.chunk.overlaps.Given as goal

abbrev pub invariant-loop-other : goal.invariant-loop-other
invariant-loop-other l = list_any (overlap l.range) (drop l.other-index l.others) ≡ list_any (overlap l.range) l.others
