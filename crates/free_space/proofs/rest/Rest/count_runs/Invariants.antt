use Rattle.free_space.proofs.Imports.{◌≡◌, ◌+◌, length, gaps}
use Rattle.free_space.proofs.rest.Rest.count_runs.Given as goal

abbrev pub invariant-loop-count : goal.invariant-loop-count
invariant-loop-count g l = record {
  live : g.U.UsedRanges.is_live l.self.used;
  counted : l.count + length (gaps l.self.at l.self.end (g.U.UsedRanges.ahead l.self.used)) ≡ length (gaps l.initial.self.at l.initial.self.end (g.U.UsedRanges.ahead l.initial.self.used));
}

abbrev pub decreases-loop-count : goal.decreases-loop-count
decreases-loop-count g l = length (gaps l.self.at l.self.end (g.U.UsedRanges.ahead l.self.used))
