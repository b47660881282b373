use Rattle.reiser_volume_files.proofs.Imports.{held_same}
use Rattle.reiser_volume_files.proofs.marker.FileMarker.put_pointer.Goals as goal

pub returns-then-block-eq0-clause-bytes : goal.returns-then-block-eq0-clause-bytes
returns-then-block-eq0-clause-bytes g c = λ tells image is f g' hole replaces low held. held_same c.args.self.now.file f g' (hole c.if-block-eq0.true) held
