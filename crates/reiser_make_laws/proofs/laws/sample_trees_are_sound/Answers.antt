use Rattle.reiser_make_laws.proofs.Sound.{trees_sound}
use Rattle.reiser_make_laws.proofs.laws.sample_trees_are_sound.Goals as goal

pub returns : goal.returns
returns c = trees_sound
