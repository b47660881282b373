use Rattle.extent_pieces.proofs.Imports.{refl}
use Rattle.extent_pieces.proofs.Gathering.{gathers_none}
use Rattle.extent_pieces.proofs.parts.FileParts.new.Goals as goal

pub returns : goal.returns
returns c = λ inline items keys. gathers_none inline items keys _ c.new.ensures.items c.new-2.ensures.items refl refl
