use Rattle.outside_mem.proofs.Imports.{arith}
use Rattle.outside_mem.proofs.store.reset.Goals as goal

pub returns-clause-whole : goal.returns-clause-whole
returns-clause-whole c = omega arith
