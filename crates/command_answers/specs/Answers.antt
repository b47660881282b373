-- Why a command was not done, by why a call on a volume gave nothing.
use Rattle.refusals.specs.declared.answer.VolAnswer.{VolAnswer}
use Rattle.refusals.specs.declared.answer.VolAnswer.TheVariants as volume
use Rattle.refusals.specs.declared.answer.BtrAnswer.{BtrAnswer}
use Rattle.refusals.specs.declared.answer.BtrAnswer.TheVariants as btrfs
use Rattle.command_answers.specs.declared.answer.Answer.{Answer}
use Rattle.command_answers.specs.declared.answer.Answer.TheVariants.{Volume, Btr, Fault, Memory}

-- a call on a ReiserFS volume
abbrev pub of_volume : VolAnswer → Answer
of_volume (volume.Refused refusal) = Volume refusal
of_volume volume.Fault = Fault
of_volume volume.Memory = Memory

-- and on a Btrfs volume
abbrev pub of_btrfs : BtrAnswer → Answer
of_btrfs (btrfs.Refused refusal) = Btr refusal
of_btrfs btrfs.Fault = Fault
of_btrfs btrfs.Memory = Memory
