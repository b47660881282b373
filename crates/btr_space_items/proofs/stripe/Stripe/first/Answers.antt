use Rattle.btr_space_items.proofs.Imports.{stripe_layout}
use Rattle.btr_space_items.proofs.stripe.Stripe.first.Goals as goal

pub returns : goal.returns
unfolding stripe_layout
returns c = λ i. record {
  devid = c.u64_at.ensures i;
  offset = c.u64_at-2.ensures i;
  device_uuid = c.array_at.ensures i;
}
