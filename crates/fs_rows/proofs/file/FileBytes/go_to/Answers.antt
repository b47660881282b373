use Rattle.fs_rows.proofs.Imports.{refl}
use Rattle.fs_rows.proofs.Holding.{gone_to}
use Rattle.fs_rows.proofs.file.FileBytes.go_to.Goals as goal

pub returns-then-self-k-clause-same : goal.returns-then-self-k-clause-same
returns-then-self-k-clause-same c = λ f held. gone_to c.args.self.now _ c.args.k f refl c.if-self-k.true c.add.ensures c.zero-self.ensures held
