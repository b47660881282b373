use Rattle.btr_check_fields.proofs.ChunkRules.{answers_valid, invalid_fails}
use Rattle.btr_check_fields.proofs.chunks.wrong_chunk.Goals as goal

pub returns-in-Some : goal.returns-in-Some
returns-in-Some c = invalid_fails c.args.sup.now c.args.chunks.now _ c.in-Some.ensures

pub returns-in-None : goal.returns-in-None
returns-in-None c = answers_valid c.args.sup.now c.args.chunks.now c.overlapping.result c.in-None.ensures c.overlapping.ensures
