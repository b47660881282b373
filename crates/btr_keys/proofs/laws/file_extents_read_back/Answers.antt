use Rattle.btr_keys.proofs.Records.{file_extents_read_back}
use Rattle.btr_keys.proofs.laws.file_extents_read_back.Goals as goal

pub returns : goal.returns
returns c = file_extents_read_back
