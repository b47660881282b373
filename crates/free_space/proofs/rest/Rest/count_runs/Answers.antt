use Rattle.free_space.proofs.Imports.{arith}
use Rattle.free_space.proofs.Steps.{gaps_few}
use Rattle.free_space.proofs.rest.Rest.count_runs.Goals as goal

pub overflow_add-count : goal.overflow_add-count
overflow_add-count g c =
    grind (arith, c.requires.few, gaps_few c.args.self.at c.args.self.end (g.U.UsedRanges.ahead c.args.self.used), c.loop-count.invariant.counted, c.in-Some.ensures.runs)
