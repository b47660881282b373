use Rattle.btr_keys.proofs.Records.{extrefs_read_back}
use Rattle.btr_keys.proofs.laws.extrefs_read_back.Goals as goal

pub returns : goal.returns
returns c = extrefs_read_back
