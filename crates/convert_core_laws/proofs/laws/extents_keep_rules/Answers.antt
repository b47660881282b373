use Rattle.convert_core_laws.proofs.Kept.{extents_kept}
use Rattle.convert_core_laws.proofs.laws.extents_keep_rules.Goals as goal

pub returns : goal.returns
returns c = extents_kept c.files_are_held.ensures
