use Rattle.rollback_core.proofs.Imports.{ℕ, refl, subst, IsInUse, TellsReserved, btrfs_cause, handed_on}
use Rattle.rollback_core.proofs.Reading.{use_refuses}
use Rattle.rollback_core.proofs.prepared.check_reserved.Goals as goal

pub returns-then-holds_of-clause-told : goal.returns-then-holds_of-clause-told
returns-then-holds_of-clause-told g c = λ tells image is on noted has same.
    c.refuse_used.ensures.told image has (subst (λ (n : ℕ). TellsReserved (IsInUse image) n c.args.reserved.now.used) same (c.holds_of.ensures c.if-holds_of.true image noted))

pub returns-in_err-reserved_used-clause-told : goal.returns-in_err-reserved_used-clause-told
returns-in_err-reserved_used-clause-told g c = λ tells image is on noted has same.
    handed_on c.from_residual.result _ _ _ c.from_residual.ensures.1 (use_refuses image c.in_err-reserved_used.field-0.0 on.format (c.in_err-reserved_used.ensures.told tells image is on.opened))

pub returns-in_err-reserved_used-clause-cause : goal.returns-in_err-reserved_used-clause-cause
returns-in_err-reserved_used-clause-cause g c = btrfs_cause c.from_residual.result c.in_err-reserved_used.field-0.0 _ _ _ refl c.from_residual.ensures.1 c.in_err-reserved_used.ensures.cause

pub returns-clause-told : goal.returns-clause-told
returns-clause-told g c = λ tells image is on noted has same.
    c.refuse_used-2.ensures.told image has (subst (λ (n : ℕ). TellsReserved (IsInUse image) n c.in_ok-reserved_used.field-0) same (c.in_ok-reserved_used.ensures.told tells image is on.opened))
