use Rattle.btr_super.proofs.ReadBack.{supers_read_back}
use Rattle.btr_super.proofs.laws.supers_read_back.Goals as goal

pub returns : goal.returns
returns c = supers_read_back
