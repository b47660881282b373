use Rattle.btr_check_sums.proofs.Imports.{sym, ◌∙◌}
use Rattle.btr_check_sums.proofs.PlaceRuns.{hand_fresh, hand_kept, hand_tells}
use Rattle.btr_check_sums.proofs.hand.find_place.Goals as goal

pub returns-in-Some-clause-place : goal.returns-in-Some-clause-place
returns-in-Some-clause-place c = sym (hand_tells c.args.ranges.now c.args.hand.now c.args.address c.in-Some.place c.requires.hand (sym c.in-Some.ensures.place))

pub returns-clause-place : goal.returns-clause-place
returns-clause-place c = c.held-2.ensures.place ∙ hand_fresh c.args.ranges.now c.run_from.result c.args.address c.run_from.ensures

pub returns-clause-hand : goal.returns-clause-hand
returns-clause-hand c = hand_kept c.args.ranges.now c.run_from.result c.args.address c.run_from.ensures
