use Rattle.reiser_volume_files.proofs.Imports.{file_byte}
use Rattle.reiser_volume_files.proofs.marker.FileMarker.finish.Goals as goal

pub returns : goal.returns
returns c = λ image given marks. c.mark.ensures (file_byte image given) marks.bytes
