use Rattle.reiser_volume_files.proofs.Joining.{runs_same}
use Rattle.reiser_volume_files.proofs.mapper.FileMapper.put_pointer.Goals as goal

pub returns-then-block-eq0-clause-runs : goal.returns-then-block-eq0-clause-runs
returns-then-block-eq0-clause-runs c = λ f g hole named others low held. runs_same c.args.self.now f g (hole c.if-block-eq0.true) held
