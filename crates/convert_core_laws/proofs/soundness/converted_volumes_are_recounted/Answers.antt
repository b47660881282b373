use Rattle.convert_core_laws.proofs.soundness.Trees.{converted_volumes_are_recounted}
use Rattle.convert_core_laws.proofs.soundness.converted_volumes_are_recounted.Goals as goal

pub returns : goal.returns
returns c = converted_volumes_are_recounted c.new_ids_fit.ensures
