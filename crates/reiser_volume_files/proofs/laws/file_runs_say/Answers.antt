use Rattle.reiser_volume_files.proofs.Ascending.{file_runs_are}
use Rattle.reiser_volume_files.proofs.laws.file_runs_say.Goals as goal

pub returns : goal.returns
returns c = file_runs_are
