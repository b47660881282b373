use Rattle.reiser_make.proofs.Imports.{◌≤◌, ◌-◌, BeginsAtPlace}
use Rattle.reiser_make.proofs.inner.LeafWalk.find.Given as goal

abbrev pub decreases-loop-self : goal.decreases-loop-self
decreases-loop-self l = l.leaf - l.self.leaf

abbrev pub invariant-loop-self : goal.invariant-loop-self
invariant-loop-self l = record { stands : BeginsAtPlace l.plan.sample l.self; before : l.self.leaf ≤ l.leaf }
