use Rattle.btr_reader.proofs.Imports.{◌≡◌, drop, list_any, same_chunk}
use Rattle.btr_reader.proofs.chunk.is_among.Given as goal

abbrev pub invariant-loop-other : goal.invariant-loop-other
invariant-loop-other l = list_any (same_chunk l.c) (drop l.other-index l.others) ≡ list_any (same_chunk l.c) l.others
