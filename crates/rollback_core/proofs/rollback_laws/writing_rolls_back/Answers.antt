use Rattle.rollback_core.proofs.Back.{back, rolled_back, standing}
use Rattle.rollback_core.proofs.Halfway.{half_back}
use Rattle.rollback_core.proofs.rollback_laws.writing_rolls_back.Goals as goal

pub returns : goal.returns
returns c = record {
  standing = λ disk way other p apart is. standing disk way p apart other is;
  half = λ disk way other p apart is. half_back disk way p apart other is;
  back = λ disk way other p is. back disk way p other is;
  done = λ disk way other p is wiped. rolled_back disk way p other is wiped;
}
