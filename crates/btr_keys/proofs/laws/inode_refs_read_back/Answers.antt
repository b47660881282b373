use Rattle.btr_keys.proofs.Records.{inode_refs_read_back}
use Rattle.btr_keys.proofs.laws.inode_refs_read_back.Goals as goal

pub returns : goal.returns
returns c = inode_refs_read_back
