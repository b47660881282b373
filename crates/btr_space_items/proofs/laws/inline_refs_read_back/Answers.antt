use Rattle.btr_space_items.proofs.InlineLaw.{inline_refs_read_back}
use Rattle.btr_space_items.proofs.laws.inline_refs_read_back.Goals as goal

pub returns : goal.returns
returns c = inline_refs_read_back
