use Rattle.reiser_make.proofs.Imports.{◌≡◌, take, marks}
use Rattle.reiser_make.proofs.bitmap.Usage.put_bits.Given as goal

abbrev pub invariant-loop-j : goal.invariant-loop-j
invariant-loop-j l = take l.j l.into ≡ marks l.self.needed l.self.blocks l.first l.j
