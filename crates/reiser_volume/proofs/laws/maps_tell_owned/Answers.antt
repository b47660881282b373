use Rattle.reiser_volume.proofs.Mapping.{maps_tell_owned}
use Rattle.reiser_volume.proofs.laws.maps_tell_owned.Goals as goal

pub returns : goal.returns
returns c = maps_tell_owned
