use Rattle.convert_core_laws.proofs.reading.Opening.{chunks_map}
use Rattle.convert_core_laws.proofs.reading.chunks_map.Goals as goal

pub returns : goal.returns
returns c = chunks_map
