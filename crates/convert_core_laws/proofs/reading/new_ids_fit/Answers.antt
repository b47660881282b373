use Rattle.convert_core_laws.proofs.reading.Identifiers.{new_ids_fit}
use Rattle.convert_core_laws.proofs.reading.new_ids_fit.Goals as goal

pub returns : goal.returns
returns c = new_ids_fit
