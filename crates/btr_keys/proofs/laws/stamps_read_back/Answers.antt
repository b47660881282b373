use Rattle.btr_keys.proofs.Records.{stamps_read_back}
use Rattle.btr_keys.proofs.laws.stamps_read_back.Goals as goal

pub returns : goal.returns
returns c = stamps_read_back
