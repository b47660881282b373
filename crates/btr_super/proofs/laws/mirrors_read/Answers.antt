use Rattle.btr_super.proofs.Mirrors.{mirrors_read}
use Rattle.btr_super.proofs.laws.mirrors_read.Goals as goal

pub returns : goal.returns
returns c = mirrors_read
