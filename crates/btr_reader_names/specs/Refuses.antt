-- What is answered where a rule of names is broken.
use Rattle.std.specs.Prelude.{ℕ, Bool, List}
use Rattle.btr_reader_walk.specs.refusals.declared.answer.BtrAnswer.{BtrAnswer}
use Rattle.btr_reader_walk.specs.refusals.declared.answer.BtrAnswer.TheVariants.{Refused, Fault, Memory}
use Rattle.btr_reader_walk.specs.Events.{TreeItem}
use Rattle.btr_reader_names.specs.Rules.{BreaksNames}

-- the refusal is that of a rule which is broken, or there was no memory
abbrev pub RefusesNames : (ℕ → Bool) → List TreeItem → ℕ → BtrAnswer → Type 0
RefusesNames has_root items root (Refused r) = BreaksNames has_root items root r
RefusesNames has_root items root Fault = ⊥
RefusesNames has_root items root Memory = Unit {0}

-- no call of a device failed
abbrev pub IsNoFault : BtrAnswer → Type 0
IsNoFault (Refused r) = Unit {0}
IsNoFault Fault = ⊥
IsNoFault Memory = Unit {0}
