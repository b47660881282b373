use Rattle.reiser_bitmap.proofs.Imports.{length, ◌∙◌, ap}
use Rattle.reiser_bitmap.proofs.BitLemmas.{length-bits}
use Rattle.reiser_bitmap.proofs.bitmap.Bitmap.load.Goals as goal

pub returns-clause-size : goal.returns-clause-size
returns-clause-size g c = ap length c.of_bytes.ensures ∙ length-bits c.args.blocks c.in_ok-bytes.bytes.items
