use Rattle.reiser_make_laws.proofs.Sound.{tree_kept}
use Rattle.reiser_make_laws.proofs.laws.samples_keep_tree_rules.Goals as goal

pub returns : goal.returns
returns c = tree_kept
