use Rattle.convert_core_laws.proofs.Mapped.{chunks_map}
use Rattle.convert_core_laws.proofs.laws.chunks_map_pieces.Goals as goal

pub returns : goal.returns
returns c = chunks_map
