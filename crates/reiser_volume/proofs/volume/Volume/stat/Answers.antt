use Rattle.reiser_volume.proofs.Imports.{sym, stat_there}
use Rattle.reiser_volume.proofs.volume.Volume.stat.Goals as goal

pub returns : goal.returns
returns c = λ key there.
    stat_there c.args.self.now.named c.args.i c.unwrap.result.0.now c.unwrap.result.1.now key (sym (rw c.unwrap.ensures at c.get_index.ensures.entry)) (rw c.unwrap.ensures at c.get_index.ensures.value) there
