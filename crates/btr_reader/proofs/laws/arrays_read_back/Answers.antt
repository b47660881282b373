use Rattle.btr_reader.proofs.ArrayBack.{arrays_read_back}
use Rattle.btr_reader.proofs.laws.arrays_read_back.Goals as goal

pub returns : goal.returns
returns c = λ s chunks behind fit is size. arrays_read_back s chunks behind fit is size
