use Rattle.btr_reader.proofs.Decided.{same_parts_decide}
use Rattle.btr_reader.proofs.metadata_laws.same_parts_decide.Goals as goal

pub returns : goal.returns
returns c = same_parts_decide
