use Rattle.convert_core_laws.proofs.going_back.Going.{saved_images_are_whole}
use Rattle.convert_core_laws.proofs.going_back.saved_images_are_whole.Goals as goal

pub returns : goal.returns
returns c = saved_images_are_whole c.new_ids_fit.ensures c.converted_volumes_open.ensures
