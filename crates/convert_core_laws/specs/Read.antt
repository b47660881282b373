-- What is read of a file or a symlink by its inode.
use Rattle.std.specs.Prelude.{◌≡◌, true, List, map, Contains, Some}
use Rattle.indexmap.specs.IndexMap.{keys}
use Rattle.reiser_volume.specs.outside.History.{Image}
use Rattle.btr_reader.specs.btr_reader_contents.Extents.{bytes_of_inode as bytes_on}
use Rattle.btr_reader.specs.btr_keys.declared.inode.Inode.{Inode}
use Rattle.btr_reader.specs.btr_reader_names.Inodes.{inode_on}
use Rattle.btr_reader.specs.btr_reader_walk.Events.{TreeItem}
use Rattle.btr_reader.specs.btr_reader_walk.Tree.{bare_item}
use Rattle.btr_reader.specs.btr_reader_walk.declared.map.MapRange.{MapRange}
use Rattle.convert_core.specs.convert_steps.Source.{HasPieces, made_from}
use Rattle.convert_core.specs.convert_steps.Moved.{HoldMoved}
use Rattle.convert_core.specs.file_items.Tree.{Source, kind_in, ino_of, size_in, fs_tree_items}
use Rattle.reiser_volume.specs.fs_rows.Kinds.{has_bytes}
use Rattle.reiser_volume.specs.reiser_volume_files.Bytes.{file_bytes}
use Rattle.reiser_volume.specs.reiser_volume_objects.declared.key.ObjectKey.{ObjectKey}
use Rattle.reiser_volume.specs.reiser_volume_objects.Keys.{items_of}
use Rattle.reiser_volume.specs.declared.volume.Volume.{Volume}
use Rattle.convert_core.specs.convert_options.declared.options.Options.{Options}
use Rattle.convert_core.specs.unit_plan.declared.piece.Piece.{Piece}
use Rattle.convert_core.specs.unit_plan.declared.plan.Plan.{Plan}
use Rattle.convert_core_laws.specs.Kept.{MapsPieces}

-- the object's inode is there, and up to the size that it says the extents have the bytes of the object
pub record HasBytesOf (s : Source) (image other : Image) (ranges : List MapRange) (items : List TreeItem) (key : ObjectKey) : Type 0 where
  pub own : Inode
  pub has : inode_on items (ino_of s key) ≡ Some own
  pub size : own.size ≡ size_in s key
  pub bytes : bytes_on other ranges items (ino_of s key) own.size ≡ file_bytes image (items_of key s.items) (size_in s key)

-- Over a disk on which the pieces stand, a tree of the file tree's items, in any leaves, has the bytes of each named file and
-- symlink of the volume, as far as its inode says.
abbrev pub BytesAreRead : Type 0
BytesAreRead =
    (volume : Volume) (image other : Image) (o : Options) (plan : Plan) (pieces : List Piece) (ranges : List MapRange) (items : List TreeItem) (key : ObjectKey)
    → HasPieces volume image o plan pieces → HoldMoved volume image other pieces → MapsPieces pieces ranges
    → map bare_item items ≡ fs_tree_items (made_from volume image o pieces) → Contains (keys volume.named) key → has_bytes (kind_in (made_from volume image o pieces) key) ≡ true
    → HasBytesOf (made_from volume image o pieces) image other ranges items key
