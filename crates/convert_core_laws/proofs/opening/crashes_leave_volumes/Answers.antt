use Rattle.convert_core_laws.proofs.opening.Crashing.{crashes_leave_volumes}
use Rattle.convert_core_laws.proofs.opening.crashes_leave_volumes.Goals as goal

pub returns : goal.returns
returns c = crashes_leave_volumes c.used_blocks_decide.ensures c.converted_volumes_open.ensures
