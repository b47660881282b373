use Rattle.unit_plan.proofs.Imports.{◌≡◌, ◌≤◌, length, filter, range_with_len, is_other}
use Rattle.unit_plan.proofs.Lists.{window}
use Rattle.unit_plan.proofs.choice.free_others.Given as goal

abbrev pub invariant-loop-u : goal.invariant-loop-u
invariant-loop-u l = record {
  seen_is : l.seen ≡ length (filter (is_other l.map l.taken.first l.taken.count) (range_with_len 0 l.u));
  few : l.seen ≤ l.u;
  units_are : l.units ≡ window l.skip l.wanted (filter (is_other l.map l.taken.first l.taken.count) (range_with_len 0 l.u));
}
