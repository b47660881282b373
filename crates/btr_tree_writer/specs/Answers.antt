-- Why a tree was not written.
use Rattle.std.specs.Prelude.{◌≡◌, ◌⊎◌}
use Rattle.btr_tree.specs.refusals.declared.answer.VolAnswer.{VolAnswer}
use Rattle.btr_tree.specs.refusals.declared.answer.VolAnswer.TheVariants as source
use Rattle.btr_tree.specs.declared.answer.TreeAnswer.{TreeAnswer}
use Rattle.btr_tree.specs.declared.answer.TreeAnswer.TheVariants as builder
use Rattle.btr_tree_writer.specs.declared.answer.WriteAnswer.{WriteAnswer}
use Rattle.btr_tree_writer.specs.declared.answer.WriteAnswer.TheVariants.{Refused, Misfit, Fault, Memory}

-- an answer of the items' source
abbrev pub of_source : VolAnswer → WriteAnswer
of_source (source.Refused r) = Refused r
of_source source.Fault = Fault
of_source source.Memory = Memory

-- an answer of the builder
abbrev pub of_builder : TreeAnswer → WriteAnswer
of_builder builder.OutOfSlots = Misfit
of_builder builder.Fault = Fault
of_builder builder.Memory = Memory

-- a fault of the device, or want of memory
abbrev pub IsFailure : WriteAnswer → Type 0
IsFailure e = (e ≡ Fault) ⊎ (e ≡ Memory)

abbrev pub IsSourceFailure : VolAnswer → Type 0
IsSourceFailure e = (e ≡ source.Fault) ⊎ (e ≡ source.Memory)

-- no refusal of the items' source
abbrev pub IsWriteAnswer : WriteAnswer → Type 0
IsWriteAnswer (Refused r) = ⊥
IsWriteAnswer Misfit = Unit {0}
IsWriteAnswer Fault = Unit {0}
IsWriteAnswer Memory = Unit {0}
