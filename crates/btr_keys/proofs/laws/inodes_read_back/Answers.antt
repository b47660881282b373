use Rattle.btr_keys.proofs.Records.{inodes_read_back}
use Rattle.btr_keys.proofs.laws.inodes_read_back.Goals as goal

pub returns : goal.returns
returns c = inodes_read_back
