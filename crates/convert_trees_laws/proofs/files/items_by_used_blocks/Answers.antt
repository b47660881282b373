use Rattle.convert_trees_laws.proofs.Same.{items_by_used_blocks}
use Rattle.convert_trees_laws.proofs.files.items_by_used_blocks.Goals as goal

pub returns : goal.returns
returns c = items_by_used_blocks
