use Rattle.btr_check_fields.proofs.ExtentRules.{answers_extents, chunk_wrong}
use Rattle.btr_check_fields.proofs.extents.wrong_extent.Goals as goal

pub returns-in-Some : goal.returns-in-Some
returns-in-Some c = λ items read. chunk_wrong c.args.chunks.now items c.args.extents.now read _ c.in-Some.ensures

pub returns-in-None : goal.returns-in-None
returns-in-None c = λ items read. answers_extents c.args.chunks.now items c.args.extents.now read _ c.in-None.ensures c.without_chunk.ensures
