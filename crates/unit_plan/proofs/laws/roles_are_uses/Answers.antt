use Rattle.unit_plan.proofs.Uses.{roles_uses}
use Rattle.unit_plan.proofs.laws.roles_are_uses.Goals as goal

pub returns : goal.returns
returns c = roles_uses
