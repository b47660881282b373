use Rattle.btr_check_items.proofs.ReservedRules.{decides_touched}
use Rattle.btr_check_items.proofs.reserved.stripe_touches.Goals as goal

pub returns : goal.returns
returns c = decides_touched _ _ c.args.length _ c.requires c.has_reserved.ensures
