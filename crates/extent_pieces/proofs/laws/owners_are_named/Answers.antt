use Rattle.extent_pieces.proofs.Named.{owners_are_named}
use Rattle.extent_pieces.proofs.laws.owners_are_named.Goals as goal

pub returns : goal.returns
returns c = owners_are_named
