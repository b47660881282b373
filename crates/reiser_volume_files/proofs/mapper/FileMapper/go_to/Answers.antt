use Rattle.reiser_volume_files.proofs.Joining.{mapper_gone_to}
use Rattle.reiser_volume_files.proofs.mapper.FileMapper.go_to.Goals as goal

pub returns-in_ok-extend-clause-same : goal.returns-in_ok-extend-clause-same
returns-in_ok-extend-clause-same c = λ f held. mapper_gone_to c.args.self.now c.extend.new.map c.args.k _ f c.if-self-k.true c.in_ok-extend.ensures.ok held
