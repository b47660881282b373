use Rattle.extent_pieces.proofs.Apart.{places_are_apart}
use Rattle.extent_pieces.proofs.laws.places_are_apart.Goals as goal

pub returns : goal.returns
returns c = places_are_apart
