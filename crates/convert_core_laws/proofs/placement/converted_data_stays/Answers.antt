use Rattle.convert_core_laws.proofs.placement.Staying.{converted_data_stays}
use Rattle.convert_core_laws.proofs.placement.converted_data_stays.Goals as goal

pub returns : goal.returns
returns c = converted_data_stays c.new_ids_fit.ensures c.converted_is_readable.ensures c.files_are_held.ensures c.names_are_kept.ensures
