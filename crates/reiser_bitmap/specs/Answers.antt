-- Answers of a call that reads and takes memory.
use Rattle.refusals.specs.declared.answer.VolAnswer.{VolAnswer}
use Rattle.refusals.specs.declared.answer.VolAnswer.TheVariants.{Refused, Fault, Memory}

-- the volume is not refused
abbrev pub IsNoRefusal : VolAnswer → Type 0
IsNoRefusal (Refused refusal) = ⊥
IsNoRefusal Fault = Unit {0}
IsNoRefusal Memory = Unit {0}
