use Rattle.convert_core_laws.proofs.Read.{bytes_read}
use Rattle.convert_core_laws.proofs.laws.bytes_are_read.Goals as goal

pub returns : goal.returns
returns c = bytes_read c.inodes_are_there.ensures c.bytes_are_kept.ensures
