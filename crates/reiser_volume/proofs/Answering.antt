-- What is answered of a volume, by the parts of the reading.
use Rattle.reiser_volume.proofs.Imports.{inl, inr, IsFileAnswer, IsFaultOrMemory, Image, VolAnswer, Refused, Fault, Memory, IsVolumeAnswer, RefusesVolume}
use Rattle.reiser_volume.specs.Reading.{IsReadingAnswer}

-- an accepted volume is refused by no rule
pub rules_pass : (image : Image) (answer : VolAnswer) → IsFaultOrMemory answer → RefusesVolume image answer
rules_pass image (Refused refusal) is = absurd is
rules_pass image Fault is = tt
rules_pass image Memory is = tt
