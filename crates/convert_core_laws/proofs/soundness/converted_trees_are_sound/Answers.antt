use Rattle.convert_core_laws.proofs.soundness.TreeRules.{converted_trees_are_sound}
use Rattle.convert_core_laws.proofs.soundness.converted_trees_are_sound.Goals as goal

pub returns : goal.returns
returns c = converted_trees_are_sound c.new_ids_fit.ensures c.files_are_held.ensures c.image_keys_ascend.ensures c.inodes_are_there.ensures
