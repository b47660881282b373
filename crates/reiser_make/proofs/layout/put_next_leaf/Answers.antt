use Rattle.reiser_make.proofs.Finding.{none_left, stands_more}
use Rattle.reiser_make.proofs.layout.put_next_leaf.Goals as goal

pub returns-in-Some-clause-stands : goal.returns-in-Some-clause-stands
returns-in-Some-clause-stands c = λ m lt stands. stands_more c.args.plan.now.sample m c.args.at.now stands c.in-Some.leaf c.in-Some.ensures

pub returns-in-None-clause-stands : goal.returns-in-None-clause-stands
returns-in-None-clause-stands c = λ m lt stands. absurd (none_left c.args.plan.now.sample m c.args.at.now stands c.in-None.ensures lt)
