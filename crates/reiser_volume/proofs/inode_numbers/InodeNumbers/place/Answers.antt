use Rattle.reiser_volume.proofs.Imports.{arith}
use Rattle.reiser_volume.proofs.Numbered.{place_before, place_behind}
use Rattle.reiser_volume.proofs.inode_numbers.InodeNumbers.place.Goals as goal

pub returns-then-n-self-clause-place : goal.returns-then-n-self-clause-place
returns-then-n-self-clause-place c all numbered within = place_before all c.args.self.root numbered c.args.n (omega (arith, c.if-n-eq0.false)) (omega (arith, c.if-n-self.true))

pub returns-else-n-self-clause-place : goal.returns-else-n-self-clause-place
returns-else-n-self-clause-place c all numbered within = place_behind all c.args.self.root numbered c.args.n (omega (arith, c.if-n-self.false))
