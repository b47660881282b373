use Rattle.reiser_make.proofs.Imports.{◌≡◌, take, fold, r5_step}
use Rattle.reiser_make.proofs.name.r5.Given as goal

abbrev pub invariant-loop-byte : goal.invariant-loop-byte
invariant-loop-byte l = l.hash ≡ fold r5_step 0 (take l.byte-index l.name)
