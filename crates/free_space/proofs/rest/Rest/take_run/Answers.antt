use Rattle.free_space.proofs.Imports.{ap}
use Rattle.free_space.proofs.Steps.{last_run}
use Rattle.free_space.proofs.rest.Rest.take_run.Goals as goal

pub returns-clause-runs : goal.returns-clause-runs
returns-clause-runs g c =
    last_run c.take_last.result c.loop-range.self.at c.loop-range.self.end c.take_last.new.self.at c.take_last.new.self.end (g.U.UsedRanges.ahead c.loop-range.self.used) (g.U.UsedRanges.ahead c.take_last.new.self.used) _
    c.loop-range.invariant.runs c.in_default.ensures.next.0 c.take_last.ensures.end (ap (λ u. g.U.UsedRanges.ahead u) c.take_last.ensures.used) c.take_last.ensures.runs c.take_last.ensures.at
