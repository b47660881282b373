-- What the pieces of an accepted volume hold.
use Rattle.std.specs.Prelude.{List}
use Rattle.btr_reader.specs.outside.History.{Image}
use Rattle.convert_steps.specs.Source.{HasPieces, HoldFiles, made_from}
use Rattle.convert_steps.specs.reiser_volume.declared.volume.Volume.{Volume}
use Rattle.convert_steps.specs.convert_options.declared.options.Options.{Options}
use Rattle.convert_steps.specs.unit_plan.declared.piece.Piece.{Piece}
use Rattle.convert_steps.specs.unit_plan.declared.plan.Plan.{Plan}

-- They hold its files: each block of a file in one piece.
abbrev pub FilesAreHeld : Type 0
FilesAreHeld = (volume : Volume) (image : Image) (o : Options) (plan : Plan) (pieces : List Piece) → HasPieces volume image o plan pieces → HoldFiles (made_from volume image o pieces)
