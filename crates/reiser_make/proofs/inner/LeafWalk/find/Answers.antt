use Rattle.reiser_make.proofs.Imports.{◌≡◌, ℕ, subst, arith, IsToldLeaf}
use Rattle.reiser_make.proofs.Finding.{none_left, stands_more, found_leaf}
use Rattle.reiser_make.proofs.inner.LeafWalk.find.Goals as goal

pub returns-in_err-next-clause-found : goal.returns-in_err-next-clause-found
returns-in_err-next-clause-found c =
    absurd (none_left c.args.plan.now.sample c.loop-self.self.leaf c.loop-self.self.at c.loop-self.invariant.stands c.in_err-next.ensures (omega (arith, c.loop-self-test.true, c.requires.there)))

pub loop-self-preserved : goal.loop-self-preserved
loop-self-preserved c = record {
  stands = stands_more c.args.plan.now.sample c.loop-self.self.leaf c.loop-self.self.at c.loop-self.invariant.stands c.in_ok-next.next c.in_ok-next.ensures;
  before = omega (arith, c.loop-self-test.true);
}

pub returns-in_err-found-clause-found : goal.returns-in_err-found-clause-found
returns-in_err-found-clause-found c =
    absurd (none_left c.args.plan.now.sample c.loop-self.self.leaf c.loop-self.self.at c.loop-self.invariant.stands c.in_err-found.ensures (omega (arith, c.loop-self.invariant.before, c.requires.there)))

pub returns-clause-found : goal.returns-clause-found
returns-clause-found c =
    let here : c.loop-self.self.leaf ≡ c.args.leaf = omega (arith, c.loop-self-test.false, c.loop-self.invariant.before) in
    subst (λ (m : ℕ). IsToldLeaf c.args.plan.now.sample m (record { first = c.in_ok-found.found.first; used = c.in_ok-found.found.used })) here
    (found_leaf c.args.plan.now.sample c.loop-self.self.leaf c.loop-self.self.at c.loop-self.invariant.stands c.in_ok-found.found c.in_ok-found.ensures)
