use Rattle.free_space.proofs.Imports.{arith}
use Rattle.free_space.proofs.Steps.{no_gaps_to_zero, none_behind_zero}
use Rattle.free_space.proofs.stream.FreeStream.new.Goals as goal

pub returns-clause-all : goal.returns-clause-all
returns-clause-all g c = grind (arith, no_gaps_to_zero (g.U.UsedRanges.ahead c.args.used), none_behind_zero (g.U.UsedRanges.ahead c.args.used))
