use Rattle.reiser_make_laws.proofs.Places.{holds_blocks}
use Rattle.reiser_make_laws.proofs.laws.samples_hold_their_blocks.Goals as goal

pub returns : goal.returns
returns c = holds_blocks
