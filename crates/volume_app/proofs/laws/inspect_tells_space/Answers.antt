use Rattle.volume_app.proofs.Space.{inspect_tells_space}
use Rattle.volume_app.proofs.laws.inspect_tells_space.Goals as goal

pub returns : goal.returns
returns c = inspect_tells_space
