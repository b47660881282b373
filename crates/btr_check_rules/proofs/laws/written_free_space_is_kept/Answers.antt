use Rattle.btr_check_rules.proofs.FreeSpace.{written_free_space_is_kept}
use Rattle.btr_check_rules.proofs.laws.written_free_space_is_kept.Goals as goal

pub returns : goal.returns
returns c = written_free_space_is_kept
