use Rattle.reiser_bitmap.proofs.Imports.{◌≡◌, take, sum_by, count_ones}
use Rattle.reiser_bitmap.proofs.count.bit_count.Given as goal

abbrev pub invariant-loop-byte : goal.invariant-loop-byte
invariant-loop-byte l = l.count ≡ sum_by count_ones (take l.byte-index l.bytes)
