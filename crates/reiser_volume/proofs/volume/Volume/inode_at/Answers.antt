use Rattle.reiser_volume.proofs.Imports.{keys}
use Rattle.reiser_volume.proofs.volume.Volume.inode_at.Goals as goal

pub returns : goal.returns
returns c image opened key there = c.inode.ensures (keys c.args.self.now.named) key (c.new.ensures.numbered image opened) there
