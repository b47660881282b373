-- The bytes of files and symlinks in a tree of the file tree's items.
use Rattle.std.specs.Prelude.{◌≡◌, ◌≤◌, ◌<◌, ◌↔◌, ℕ, ◌+◌, ◌*◌, true, List, map, Contains, Some}
use Rattle.indexmap.specs.IndexMap.{keys}
use Rattle.reiser_volume.specs.outside.History.{Image}
use Rattle.btr_reader.specs.btr_reader_contents.Extents.{bytes_of_inode as bytes_on}
use Rattle.btr_reader.specs.btr_reader_walk.Events.{TreeItem}
use Rattle.btr_reader.specs.btr_reader_walk.Map.{place}
use Rattle.btr_reader.specs.btr_reader_walk.Tree.{bare_item}
use Rattle.btr_reader.specs.btr_reader_walk.declared.map.MapRange.{MapRange}
use Rattle.convert_core.specs.convert_steps.Source.{HasPieces, HoldPieces, made_from}
use Rattle.convert_core.specs.convert_steps.Moved.{HoldMoved}
use Rattle.convert_core.specs.file_items.Tree.{kind_in, ino_of, size_in, fs_tree_items}
use Rattle.reiser_volume.specs.fs_rows.Kinds.{has_bytes}
use Rattle.reiser_volume.specs.reiser_volume_files.Bytes.{file_bytes}
use Rattle.reiser_volume.specs.reiser_volume_objects.declared.key.ObjectKey.{ObjectKey}
use Rattle.reiser_volume.specs.reiser_volume_objects.Keys.{items_of}
use Rattle.reiser_volume.specs.Volume.{volume_items}
use Rattle.reiser_volume.specs.declared.volume.Volume.{Volume}
use Rattle.convert_core.specs.convert_options.declared.options.Options.{Options}
use Rattle.convert_core.specs.unit_plan.declared.piece.Piece.{Piece}
use Rattle.convert_core.specs.unit_plan.declared.plan.Plan.{Plan}

-- each address of a piece is its place
pub record MapsPieces (pieces : List Piece) (ranges : List MapRange) : Type 0 where
  pub places : (p : Piece) (a : ℕ) → Contains pieces p → 4096 * p.place ≤ a → a < 4096 * (p.place + p.count) → place ranges a ≡ Some a

-- Pieces stand on a disk where each holds what it is to hold and where each of their addresses is its place.
abbrev pub PiecesStand : Type 0
PiecesStand =
    (volume : Volume) (image other : Image) (o : Options) (pieces : List Piece) (ranges : List MapRange)
    → HoldPieces (made_from volume image o pieces) image other ranges ↔ (HoldMoved volume image other pieces × MapsPieces pieces ranges)

-- Over a disk on which the pieces stand, the extents of a named file or symlink in a tree of the file tree's items, in any
-- leaves, give the bytes that the volume has for it.
abbrev pub BytesAreKept : Type 0
BytesAreKept =
    (volume : Volume) (image other : Image) (o : Options) (plan : Plan) (pieces : List Piece) (ranges : List MapRange) (items : List TreeItem) (key : ObjectKey)
    → HasPieces volume image o plan pieces → HoldMoved volume image other pieces → MapsPieces pieces ranges
    → map bare_item items ≡ fs_tree_items (made_from volume image o pieces) → Contains (keys volume.named) key → has_bytes (kind_in (made_from volume image o pieces) key) ≡ true
    → bytes_on other ranges items (ino_of (made_from volume image o pieces) key) (size_in (made_from volume image o pieces) key)
    ≡ file_bytes image (items_of key (volume_items image)) (size_in (made_from volume image o pieces) key)
