use Rattle.reiser_make.proofs.Growing.{Grows}
use Rattle.reiser_make.proofs.sample.Sample.new.Given as goal

abbrev pub invariant-loop-i : goal.invariant-loop-i
invariant-loop-i l = Grows l.number l.i l.draws.state l.names.items l.stored
