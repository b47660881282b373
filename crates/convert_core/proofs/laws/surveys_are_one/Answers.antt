use Rattle.convert_core.proofs.One.{surveys_are_one}
use Rattle.convert_core.proofs.laws.surveys_are_one.Goals as goal

pub returns : goal.returns
returns c = surveys_are_one
