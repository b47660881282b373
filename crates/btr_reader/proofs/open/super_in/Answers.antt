use Rattle.btr_reader.proofs.Supers.{read_bounds}
use Rattle.btr_reader.proofs.open.super_in.Goals as goal

pub returns-clause-bounds : goal.returns-clause-bounds
returns-clause-bounds c = read_bounds c.args.block.now.bytes c.args.device c.read.result c.read.ensures.value
