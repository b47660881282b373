use Rattle.btr_check_items.proofs.ReservedRules.{some_second, without_second}
use Rattle.btr_check_items.proofs.reserved.second_touches.Goals as goal

pub returns-in-Some : goal.returns-in-Some
returns-in-Some c = some_second _ c.args.stripe.now _ c.args.behind c.args.length _ c.in-Some.is c.stripe_touches.ensures

pub returns-in-None : goal.returns-in-None
returns-in-None c = without_second c.args.stripe.now c.args.behind c.args.length _ c.in-None.is
