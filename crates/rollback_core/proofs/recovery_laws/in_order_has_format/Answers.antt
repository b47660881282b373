use Rattle.rollback_core.proofs.RecoveryFormats.{has_format}
use Rattle.rollback_core.proofs.recovery_laws.in_order_has_format.Goals as goal

pub returns : goal.returns
returns c = has_format
