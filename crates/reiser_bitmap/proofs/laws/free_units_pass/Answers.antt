use Rattle.reiser_bitmap.proofs.FreeUnits.{decides_free_unit}
use Rattle.reiser_bitmap.proofs.laws.free_units_pass.Goals as goal

pub returns : goal.returns
returns c = decides_free_unit
