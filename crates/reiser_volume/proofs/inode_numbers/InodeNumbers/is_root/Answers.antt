use Rattle.reiser_volume.proofs.Numbered.{root_at}
use Rattle.reiser_volume.proofs.inode_numbers.InodeNumbers.is_root.Goals as goal

pub returns : goal.returns
returns c all key numbered there = root_at all c.args.self.root numbered c.args.place key there
