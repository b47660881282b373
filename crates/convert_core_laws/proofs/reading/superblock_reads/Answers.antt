use Rattle.convert_core_laws.proofs.reading.Superblock.{superblock_reads}
use Rattle.convert_core_laws.proofs.reading.superblock_reads.Goals as goal

pub returns : goal.returns
returns c = superblock_reads
