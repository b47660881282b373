use Rattle.reiser_make.proofs.Imports.{◌≡◌, ◌+◌, ◌*◌, ◌++◌, take, flat_map, range_with_len, BeginsAtPlace, child, disk_child_bytes}
use Rattle.reiser_make.proofs.sample_plan.SamplePlan.put_pointers.Given as goal

abbrev pub invariant-loop-i : goal.invariant-loop-i
invariant-loop-i l = record {
  pointers : take (l.start + 8 * l.i) l.into ≡ take l.start l.initial.into ++ flat_map (λ m. disk_child_bytes (child l.self.sample l.level.number m)) (range_with_len l.first l.i);
  stands : BeginsAtPlace l.self.sample l.walk;
}
