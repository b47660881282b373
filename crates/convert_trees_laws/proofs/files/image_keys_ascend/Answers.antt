use Rattle.convert_trees_laws.proofs.SmallTrees.{image_keys_ascend}
use Rattle.convert_trees_laws.proofs.files.image_keys_ascend.Goals as goal

pub returns : goal.returns
returns c = image_keys_ascend
