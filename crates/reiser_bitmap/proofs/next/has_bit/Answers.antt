use Rattle.reiser_bitmap.proofs.Imports.{◌/◌, ◌%◌, arith, slice_index}
use Rattle.reiser_bitmap.proofs.BitLemmas.{has_bit}
use Rattle.reiser_bitmap.proofs.next.has_bit.Goals as goal

pub returns : goal.returns
returns c = has_bit (slice_index c.args.bytes.now (c.args.b / 8)) (c.args.b % 8) (omega arith)
