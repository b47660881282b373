use Rattle.btr_reader.proofs.Decided.{metadata_decides}
use Rattle.btr_reader.proofs.metadata_laws.metadata_decides.Goals as goal

pub returns : goal.returns
returns c = metadata_decides
