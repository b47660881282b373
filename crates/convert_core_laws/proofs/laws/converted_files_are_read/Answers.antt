use Rattle.convert_core_laws.proofs.Converted.{files_read}
use Rattle.convert_core_laws.proofs.laws.converted_files_are_read.Goals as goal

pub returns : goal.returns
returns c = files_read c.bytes_are_read.ensures c.extents_keep_rules.ensures c.chunks_map_pieces.ensures
