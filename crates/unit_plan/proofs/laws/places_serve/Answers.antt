use Rattle.unit_plan.proofs.Placing.{places_serve as serve}
use Rattle.unit_plan.proofs.laws.places_serve.Goals as goal

pub returns : goal.returns
returns c = serve
