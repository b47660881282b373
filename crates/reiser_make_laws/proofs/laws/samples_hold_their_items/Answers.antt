use Rattle.reiser_make_laws.proofs.Items.{samples_items}
use Rattle.reiser_make_laws.proofs.laws.samples_hold_their_items.Goals as goal

pub returns : goal.returns
returns c = samples_items
