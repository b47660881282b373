use Rattle.convert_core_laws.proofs.reading.Reading.{trees_read}
use Rattle.convert_core_laws.proofs.reading.trees_read.Goals as goal

pub returns : goal.returns
returns c = trees_read
