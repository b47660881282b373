use Rattle.free_space.proofs.Imports.{◌≡◌, ◌≤◌, length, behind, gaps}
use Rattle.free_space.proofs.rest.Rest.take_run.Given as goal

abbrev pub invariant-loop-range : goal.invariant-loop-range
invariant-loop-range g l = record {
  live : g.U.UsedRanges.is_live l.self.used;
  few : length (g.U.UsedRanges.ahead l.self.used) ≤ length (g.U.UsedRanges.ahead l.initial.self.used);
  end : l.self.end ≡ l.initial.self.end;
  runs : gaps l.self.at l.self.end (g.U.UsedRanges.ahead l.self.used) ≡ gaps l.initial.self.at l.initial.self.end (g.U.UsedRanges.ahead l.initial.self.used);
  behind : behind l.self.end (g.U.UsedRanges.ahead l.self.used) ≡ behind l.initial.self.end (g.U.UsedRanges.ahead l.initial.self.used);
}

abbrev pub decreases-loop-range : goal.decreases-loop-range
decreases-loop-range g l = length (g.U.UsedRanges.ahead l.self.used)
