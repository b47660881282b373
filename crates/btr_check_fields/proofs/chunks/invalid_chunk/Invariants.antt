use Rattle.btr_check_fields.proofs.Imports.{take, All, IsChunkOn}
use Rattle.btr_check_fields.proofs.chunks.invalid_chunk.Given as goal

abbrev pub invariant-loop-c : goal.invariant-loop-c
invariant-loop-c l = All (IsChunkOn l.sup) (take l.c-index l.chunks)
