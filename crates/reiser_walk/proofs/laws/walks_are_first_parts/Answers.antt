use Rattle.reiser_walk.proofs.Given.{first_part}
use Rattle.reiser_walk.proofs.laws.walks_are_first_parts.Goals as goal

pub returns : goal.returns
returns c = first_part
