use Rattle.reiser_walk.proofs.Rules.{sound_exactly}
use Rattle.reiser_walk.proofs.laws.sound_trees_keep_rules.Goals as goal

pub returns : goal.returns
returns c = sound_exactly
