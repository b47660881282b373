use Rattle.btr_keys.proofs.Records.{disk_ranges_read_back}
use Rattle.btr_keys.proofs.laws.disk_ranges_read_back.Goals as goal

pub returns : goal.returns
returns c = disk_ranges_read_back
