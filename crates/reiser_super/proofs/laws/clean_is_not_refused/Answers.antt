use Rattle.reiser_super.proofs.Clean.{clean_from_none, none_from_clean}
use Rattle.reiser_super.proofs.laws.clean_is_not_refused.Goals as goal

pub returns : goal.returns
returns c = λ bytes device. (clean_from_none bytes device, none_from_clean bytes device)
