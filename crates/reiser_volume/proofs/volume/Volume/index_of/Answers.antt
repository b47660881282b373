use Rattle.reiser_volume.proofs.Imports.{place_found}
use Rattle.reiser_volume.proofs.volume.Volume.index_of.Goals as goal

pub returns : goal.returns
returns c = place_found c.args.self.now.named c.args.key c.get_index_of.result c.get_index_of.ensures.index c.get_index_of.ensures.found
