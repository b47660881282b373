-- What is answered where a volume is opened, and its objects are read again.
use Rattle.std.specs.Prelude.{◌⊎◌}
use Rattle.reiser_volume_contents.specs.Answers.{IsChanged}
use Rattle.reiser_bitmap.specs.refusals.declared.answer.VolAnswer.{VolAnswer}
use Rattle.reiser_bitmap.specs.refusals.declared.answer.VolAnswer.TheVariants.{Refused, Fault, Memory}
use Rattle.reiser_volume.specs.Answers.{NamesVolumeRule}

-- a refusal of volumes, or that a block reads otherwise than before, whatever the source gives
abbrev pub IsReadingAnswer : VolAnswer → Type 0
IsReadingAnswer (Refused refusal) = NamesVolumeRule refusal ⊎ IsChanged refusal
IsReadingAnswer Fault = Unit {0}
IsReadingAnswer Memory = Unit {0}
