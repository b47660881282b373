use Rattle.btr_reader.proofs.Decided.{reserved_blocks_are_spare}
use Rattle.btr_reader.proofs.metadata_laws.reserved_blocks_are_spare.Goals as goal

pub returns : goal.returns
returns c = reserved_blocks_are_spare
