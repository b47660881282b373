use Rattle.unit_plan.proofs.Imports.{◌≡◌, ℕ, ◌&&◌, ◌||◌, leb, ltb, length, has}
use Rattle.unit_plan.proofs.roles.mark_run.Given as goal

abbrev pub invariant-loop-u : goal.invariant-loop-u
invariant-loop-u l = record {
  size : length l.set ≡ length l.initial.set;
  marked : (v : ℕ) → has l.set v ≡ (has l.initial.set v || (leb l.fn.run.first v && ltb v l.u));
}
