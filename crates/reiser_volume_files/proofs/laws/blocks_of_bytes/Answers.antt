use Rattle.reiser_volume_files.proofs.Imports.{block_of_file, file_byte}
use Rattle.reiser_volume_files.proofs.laws.blocks_of_bytes.Goals as goal

pub returns : goal.returns
returns c = λ image items size k. block_of_file (file_byte image items) size k
