-- The inodes of the objects of a volume in a tree of its items.
use Rattle.std.specs.Prelude.{◌≡◌, List, map, Contains, Some}
use Rattle.indexmap.specs.IndexMap.{keys}
use Rattle.btr_reader.specs.outside.History.{Image}
use Rattle.btr_reader.specs.btr_reader_names.Inodes.{find_inode_item}
use Rattle.btr_reader.specs.btr_reader_walk.Events.{TreeItem}
use Rattle.btr_reader.specs.btr_reader_walk.Tree.{bare_item}
use Rattle.convert_steps.specs.Source.{HasPieces, made_from}
use Rattle.convert_steps.specs.file_items.Tree.{Source, inode_in, ino_of, fs_tree_items}
use Rattle.convert_steps.specs.btr_item_list.Inodes.{inode_item}
use Rattle.convert_steps.specs.reiser_volume_objects.declared.key.ObjectKey.{ObjectKey}
use Rattle.convert_steps.specs.reiser_volume.declared.volume.Volume.{Volume}
use Rattle.convert_steps.specs.convert_options.declared.options.Options.{Options}
use Rattle.convert_steps.specs.unit_plan.declared.piece.Piece.{Piece}
use Rattle.convert_steps.specs.unit_plan.declared.plan.Plan.{Plan}

-- the first item that is found as the object's inode is the one that is made of its stat data
abbrev pub HasInodeOf : Source → List TreeItem → ObjectKey → Type 0
HasInodeOf s items key = (i : TreeItem) × (find_inode_item items (ino_of s key) ≡ Some i) × (bare_item i ≡ inode_item (ino_of s key) (inode_in s key))

-- Each named object has its inode in a tree that has the items of the file tree, in any leaves.
abbrev pub InodesAreThere : Type 0
InodesAreThere =
    (volume : Volume) (image : Image) (o : Options) (plan : Plan) (pieces : List Piece) (items : List TreeItem) (key : ObjectKey) → HasPieces volume image o plan pieces
    → map bare_item items ≡ fs_tree_items (made_from volume image o pieces) → Contains (keys volume.named) key → HasInodeOf (made_from volume image o pieces) items key
