use Rattle.reiser_make.proofs.Imports.{◌≡◌, take, map, range_with_len, file_byte}
use Rattle.reiser_make.proofs.body.put_bytes.Given as goal

abbrev pub invariant-loop-at : goal.invariant-loop-at
invariant-loop-at l = take l.at l.into ≡ map (file_byte l.i l.sparse) (range_with_len l.from l.at)
