use Rattle.reiser_make.proofs.Imports.{◌≡◌, ◌+◌, ◌-◌, ◌*◌, ◌++◌, take, flat_map, range_with_len, BeginsAtPlace, child, child_key}
use Rattle.reiser_make.proofs.sample_plan.SamplePlan.put_keys.Given as goal

abbrev pub invariant-loop-i : goal.invariant-loop-i
invariant-loop-i l = record {
  keys : take (24 + 16 * (l.i - 1)) l.into ≡ take 24 l.initial.into ++ flat_map (λ m. child_key (child l.self.sample l.level.number m)) (range_with_len (l.first + 1) (l.i - 1));
  stands : BeginsAtPlace l.self.sample l.walk;
}
