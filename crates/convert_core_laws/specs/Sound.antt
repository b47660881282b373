-- Extents that a reader finds no fault in.
use Rattle.std.specs.Prelude.{◌≡◌, ℕ, List, [], map}
use Rattle.reiser_volume.specs.outside.History.{Image}
use Rattle.btr_reader.specs.btr_reader_contents.Extents.{extents_of, extents_refusals}
use Rattle.btr_reader.specs.btr_reader_walk.Events.{TreeItem}
use Rattle.btr_reader.specs.btr_reader_walk.Tree.{bare_item}
use Rattle.btr_reader.specs.btr_reader_walk.declared.map.MapRange.{MapRange}
use Rattle.convert_core.specs.convert_steps.Source.{HasPieces, made_from}
use Rattle.convert_core.specs.file_items.Tree.{fs_tree_items}
use Rattle.reiser_volume.specs.declared.volume.Volume.{Volume}
use Rattle.convert_core.specs.convert_options.declared.options.Options.{Options}
use Rattle.convert_core.specs.unit_plan.declared.piece.Piece.{Piece}
use Rattle.convert_core.specs.unit_plan.declared.plan.Plan.{Plan}
use Rattle.convert_core_laws.specs.Kept.{MapsPieces}

-- The extents of each inode in a tree of the file tree's items, in any leaves, keep the rules of extents: they ascend and do not
-- overlap, are whole blocks, and lie where the map has addresses.
abbrev pub ExtentsKeepRules : Type 0
ExtentsKeepRules =
    (volume : Volume) (image : Image) (o : Options) (plan : Plan) (pieces : List Piece) (ranges : List MapRange) (items : List TreeItem) (ino : ℕ)
    → HasPieces volume image o plan pieces → MapsPieces pieces ranges → map bare_item items ≡ fs_tree_items (made_from volume image o pieces)
    → extents_refusals ranges 0 0 (extents_of items ino) ≡ []
