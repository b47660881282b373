-- What the rows of a tree of the file tree's items are.
use Rattle.std.specs.Prelude.{◌≡◌, ◌<◌, ℕ, true, List, Contains, Some, slice_index}
use Rattle.btr_reader.specs.outside.History.{Image, block_at}
use Rattle.btr_reader.specs.btr_reader_contents.Extents.{bytes_of_inode as bytes_on}
use Rattle.btr_reader.specs.btr_reader_names.Inodes.{inode_on}
use Rattle.btr_reader.specs.Rows.{AreRows}
use Rattle.btr_reader.specs.btr_reader_walk.Events.{TreeItem}
use Rattle.btr_reader.specs.btr_reader_walk.declared.map.MapRange.{MapRange}
use Rattle.convert_steps.specs.Source.{HasPieces, made_from}
use Rattle.convert_steps.specs.file_items.Tree.{Source, inode_in, kind_in, ino_of, size_in}
use Rattle.btr_reader.specs.fs_rows.Kinds.{has_bytes}
use Rattle.btr_reader.specs.fs_rows.Rows.{WholeRow}
use Rattle.convert_steps.specs.reiser_volume_files.Bytes.{file_bytes}
use Rattle.convert_steps.specs.reiser_volume_objects.declared.key.ObjectKey.{ObjectKey}
use Rattle.convert_steps.specs.reiser_volume_objects.Keys.{items_of}
use Rattle.convert_steps.specs.reiser_volume.Volume.{AreRowsOf}
use Rattle.convert_steps.specs.reiser_volume.declared.volume.Volume.{Volume}
use Rattle.convert_steps.specs.convert_options.declared.options.Options.{Options}
use Rattle.convert_steps.specs.unit_plan.declared.piece.Piece.{Piece}
use Rattle.convert_steps.specs.unit_plan.declared.plan.Plan.{Plan}
use Rattle.convert_trees_laws.specs.Names.{ReadAs}

-- each number in a block is a byte
abbrev pub HasBytes : Image → Type 0
HasBytes image = (b i : ℕ) → slice_index (block_at image b) i < 256

-- the inode that is read of each object is the one that was made of its stat data
abbrev pub InodesAreRead : Type 0
InodesAreRead =
    (volume : Volume) (image : Image) (o : Options) (plan : Plan) (pieces : List Piece) (items : List TreeItem) (key : ObjectKey) → HasPieces volume image o plan pieces
    → ReadAs (made_from volume image o pieces) items → HasBytes image → Contains (made_from volume image o pieces).keys key
    → inode_on items (ino_of (made_from volume image o pieces) key) ≡ Some (inode_in (made_from volume image o pieces) key)

-- a file or the target of a symlink has the bytes that it had
abbrev pub KeepsBytes : Source → Image → Image → List MapRange → List TreeItem → Type 0
KeepsBytes s image other ranges items =
    (key : ObjectKey) → Contains s.keys key → has_bytes (kind_in s key) ≡ true
    → bytes_on other ranges items (ino_of s key) (size_in s key) ≡ file_bytes image (items_of key s.items) (size_in s key)

-- The rows of the volume are the rows of the tree, where that has the bytes of the files.
abbrev pub RowsAreKept : Type 0
RowsAreKept =
    (volume : Volume) (image other : Image) (o : Options) (plan : Plan) (pieces : List Piece) (ranges : List MapRange) (items : List TreeItem) (rows : List WholeRow) → HasPieces volume image o plan pieces
    → ReadAs (made_from volume image o pieces) items → HasBytes image → KeepsBytes (made_from volume image o pieces) image other ranges items → AreRowsOf image rows → AreRows other ranges items rows
