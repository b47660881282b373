use Rattle.outside_mem.proofs.Imports.{arith}
use Rattle.outside_mem.proofs.store.put_recorded.Goals as goal

pub returns-in-Ok-clause-whole : goal.returns-in-Ok-clause-whole
returns-in-Ok-clause-whole c = omega arith
