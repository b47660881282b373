use Rattle.volume_state.proofs.Imports.{sym, subst, IsInUse, TellsReserved}
use Rattle.volume_state.proofs.using.Reserved.holds_of.Goals as goal

pub returns-in-Some : goal.returns-in-Some
returns-in-Some c = λ true image told.
    let one = rw c.in-Some.is at told in
    subst (TellsReserved (IsInUse image) c.args.blocks) (sym c.in-Some.is) (c.is_reserved.ensures.fact.0 true, one.1)

pub returns-in-None : goal.returns-in-None
returns-in-None c = λ true image told.
    let none = rw c.in-None.is at told in
    subst (TellsReserved (IsInUse image) c.args.blocks) (sym c.in-None.is) (λ b reserved. none b (c.has_no_more.ensures true b reserved))
