use Rattle.convert_trees_laws.proofs.Keys.{file_keys_ascend}
use Rattle.convert_trees_laws.proofs.files.file_keys_ascend.Goals as goal

pub returns : goal.returns
returns c = file_keys_ascend
