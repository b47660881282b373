use Rattle.convert_core_laws.proofs.soundness.Stripes.{converted_chunks_are_sound}
use Rattle.convert_core_laws.proofs.soundness.converted_chunks_are_sound.Goals as goal

pub returns : goal.returns
returns c = converted_chunks_are_sound c.new_ids_fit.ensures
