use Rattle.reiser_make.proofs.Imports.{ap, sym, ◌∙◌, arith, level_of}
use Rattle.reiser_make.proofs.Rising.{climbs_first, climbs_more, climbed, root_one}
use Rattle.reiser_make.proofs.level.Level.root.Goals as goal

pub loop-level-init : goal.loop-level-init
loop-level-init c = climbs_first c.args.count c.leaves-level.result c.requires.some c.requires.most c.leaves-level.ensures

pub loop-level-preserved : goal.loop-level-preserved
loop-level-preserved c =
    climbs_more c.args.count c.loop-level.level c.above-level.result c.loop-level.invariant c.loop-level-test.true c.above-level.ensures.number c.above-level.ensures.nodes c.above-level.ensures.below

pub returns-clause-level : goal.returns-clause-level
returns-clause-level c = c.loop-level.invariant.is ∙ ap (level_of c.args.count) (sym (climbed c.args.count c.loop-level.level c.loop-level.invariant c.loop-level-test.false))

pub returns-clause-few : goal.returns-clause-few
returns-clause-few c = omega (arith, climbed c.args.count c.loop-level.level c.loop-level.invariant c.loop-level-test.false, c.loop-level.invariant.high)

pub returns-clause-one : goal.returns-clause-one
returns-clause-one c = root_one c.args.count c.loop-level.level c.requires.some c.loop-level.invariant c.loop-level-test.false
