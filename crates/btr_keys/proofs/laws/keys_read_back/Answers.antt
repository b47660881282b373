use Rattle.btr_keys.proofs.Records.{keys_read_back}
use Rattle.btr_keys.proofs.laws.keys_read_back.Goals as goal

pub returns : goal.returns
returns c = keys_read_back
