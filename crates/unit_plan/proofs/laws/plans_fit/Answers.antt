use Rattle.unit_plan.proofs.Uses.{plans_fit as fit}
use Rattle.unit_plan.proofs.laws.plans_fit.Goals as goal

pub returns : goal.returns
returns c = fit
