use Rattle.convert_core_laws.proofs.soundness.Within.{converted_placement_is_sound}
use Rattle.convert_core_laws.proofs.soundness.converted_placement_is_sound.Goals as goal

pub returns : goal.returns
returns c = converted_placement_is_sound c.new_ids_fit.ensures
