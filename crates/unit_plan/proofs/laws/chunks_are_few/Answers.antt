use Rattle.unit_plan.proofs.Counted.{chunks_few}
use Rattle.unit_plan.proofs.laws.chunks_are_few.Goals as goal

pub returns : goal.returns
returns c = chunks_few
