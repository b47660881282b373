use Rattle.convert_core_laws.proofs.reading.Saved.{saved_image_reads}
use Rattle.convert_core_laws.proofs.reading.saved_image_reads.Goals as goal

pub returns : goal.returns
returns c = saved_image_reads c.image_keys_ascend.ensures
