use Rattle.convert_core_laws.proofs.Kept.{pieces_stand}
use Rattle.convert_core_laws.proofs.laws.pieces_stand.Goals as goal

pub returns : goal.returns
returns c = pieces_stand
