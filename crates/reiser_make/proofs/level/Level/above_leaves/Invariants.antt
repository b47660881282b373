use Rattle.reiser_make.proofs.Imports.{◌≡◌, level_of}
use Rattle.reiser_make.proofs.level.Level.above_leaves.Given as goal

abbrev pub invariant-loop : goal.invariant-loop
invariant-loop l = l.level ≡ level_of l.count l.counter
