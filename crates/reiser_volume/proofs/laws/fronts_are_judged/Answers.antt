use Rattle.reiser_volume.proofs.Refusals.{front_not_refused, accepted_front}
use Rattle.reiser_volume.proofs.laws.fronts_are_judged.Goals as goal

pub returns : goal.returns
returns c = record { broken = front_not_refused; accepted = accepted_front }
