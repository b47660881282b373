use Rattle.rollback_core.proofs.RecoveryKeeping.{in_order_recovers}
use Rattle.rollback_core.proofs.recovery_laws.recovers_what_is_in_order.Goals as goal

pub returns : goal.returns
returns c = in_order_recovers
