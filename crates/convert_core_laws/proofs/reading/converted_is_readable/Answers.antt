use Rattle.convert_core_laws.proofs.reading.Reading.{converted_is_readable}
use Rattle.convert_core_laws.proofs.reading.converted_is_readable.Goals as goal

pub returns : goal.returns
returns c = converted_is_readable
