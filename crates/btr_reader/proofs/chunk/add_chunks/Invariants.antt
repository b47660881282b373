use Rattle.btr_reader.proofs.Imports.{◌≡◌, [], take, drop, map, LieOn, range_of, chunks_refusals}
use Rattle.btr_reader.proofs.chunk.add_chunks.Given as goal

abbrev pub invariant-loop-c : goal.invariant-loop-c
invariant-loop-c l = record {
  inside : LieOn l.device l.ranges.items;
  added : l.ranges.items ≡ map range_of (take l.c-index l.chunks);
  rest : chunks_refusals l.device [] l.chunks ≡ chunks_refusals l.device l.ranges.items (drop l.c-index l.chunks);
}
