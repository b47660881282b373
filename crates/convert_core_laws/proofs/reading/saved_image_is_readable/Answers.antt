use Rattle.convert_core_laws.proofs.reading.SavedWay.{saved_image_is_readable}
use Rattle.convert_core_laws.proofs.reading.saved_image_is_readable.Goals as goal

pub returns : goal.returns
returns c = saved_image_is_readable c.entries_are_there.ensures c.image_keys_ascend.ensures
