-- What a look at a journal answers.
use Rattle.std.specs.Prelude.{ℕ, List, Contains}
use Rattle.refusals.specs.declared.answer.VolAnswer.{VolAnswer}
use Rattle.refusals.specs.declared.answer.VolAnswer.TheVariants.{Refused, Fault, Memory}
use Rattle.refusals.specs.declared.refusal.VolumeRefusal.TheVariants.{JournalPending}

-- the only refusal is that of a transaction that waits, and no memory is taken
abbrev pub IsJournalAnswer : VolAnswer → Type 0
IsJournalAnswer (Refused (JournalPending trans)) = Unit {0}
IsJournalAnswer (Refused refusal) = ⊥
IsJournalAnswer Fault = Unit {0}
IsJournalAnswer Memory = ⊥

-- a refusal is that of one of these transactions
abbrev pub IsPendingIn : List ℕ → VolAnswer → Type 0
IsPendingIn pending (Refused (JournalPending trans)) = Contains pending trans
IsPendingIn pending (Refused refusal) = ⊥
IsPendingIn pending Fault = Unit {0}
IsPendingIn pending Memory = Unit {0}
