use Rattle.btr_check_items.proofs.ReservedRules.{first_touches, others_touch}
use Rattle.btr_check_items.proofs.reserved.touches_reserved.Goals as goal

pub returns-then-in_first : goal.returns-then-in_first
returns-then-in_first c = first_touches _ _ _ _ c.args.length _ c.stripe_touches-in_first.ensures c.if-in_first.true

pub returns-else-in_first : goal.returns-else-in_first
returns-else-in_first c = others_touch _ _ _ _ _ c.args.length _ c.stripe_touches-in_first.ensures c.if-in_first.false c.second_touches-in_second.ensures
