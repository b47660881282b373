use Rattle.convert_core_laws.proofs.Kept.{bytes_kept}
use Rattle.convert_core_laws.proofs.laws.bytes_are_kept.Goals as goal

pub returns : goal.returns
returns c = bytes_kept c.files_are_held.ensures
