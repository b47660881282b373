use Rattle.btr_check_fields.proofs.GroupRules.{answers_groups, chunk_wrong}
use Rattle.btr_check_fields.proofs.groups.wrong_group.Goals as goal

pub returns-in-Some : goal.returns-in-Some
returns-in-Some c = λ used items told read. chunk_wrong used c.args.chunks.now items c.args.groups.now told read _ c.in-Some.ensures

pub returns-in-None : goal.returns-in-None
returns-in-None c = λ used items told read. answers_groups used c.args.chunks.now items c.args.groups.now told read _ c.in-None.ensures c.without_chunk.ensures
