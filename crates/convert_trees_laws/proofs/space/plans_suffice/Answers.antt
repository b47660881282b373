use Rattle.convert_trees_laws.proofs.Sufficing.{plans_suffice}
use Rattle.convert_trees_laws.proofs.space.plans_suffice.Goals as goal

pub returns : goal.returns
returns c = plans_suffice c.trees_are_counted.ensures c.file_keys_ascend.ensures c.image_keys_ascend.ensures c.items_are_short.ensures
