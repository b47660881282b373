use Rattle.super_turn.proofs.Imports.{refl, one_sync, one_write, then_writes}
use Rattle.super_turn.proofs.steps.write_step.Goals as goal

pub returns-in_err-write-clause-writes : goal.returns-in_err-write-clause-writes
returns-in_err-write-clause-writes g c = one_write _ _ _ (refl, refl) c.write.ensures.open c.write.ensures.size c.write.ensures.borrow c.write.ensures.effect

pub returns-clause-writes : goal.returns-clause-writes
returns-clause-writes g c =
    then_writes (one_write _ _ _ (refl, refl) c.write.ensures.open c.write.ensures.size c.write.ensures.borrow c.write.ensures.effect)
    (one_sync _ c.sync.ensures.open c.sync.ensures.size c.sync.ensures.borrow c.sync.ensures.effect)
