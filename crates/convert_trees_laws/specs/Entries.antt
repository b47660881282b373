-- The entries of directories in a tree of the file tree's items.
use Rattle.std.specs.Prelude.{◌≡◌, ℕ, List, [], map}
use Rattle.std.specs.List.{flat_map}
use Rattle.btr_reader.specs.outside.History.{Image}
use Rattle.btr_reader.specs.fs_rows.declared.row.Kind.{Kind}
use Rattle.btr_reader.specs.fs_rows.declared.row.Kind.TheVariants.{Directory, File, Symlink, Character, Block, Fifo, Socket, Subvolume}
use Rattle.btr_reader.specs.btr_reader_names.Links.{dir_indexes}
use Rattle.btr_reader.specs.btr_reader_names.declared.dir_index.DirIndex.{DirIndex}
use Rattle.btr_reader.specs.btr_reader_walk.Events.{TreeItem}
use Rattle.btr_reader.specs.btr_reader_walk.Tree.{bare_item}
use Rattle.convert_steps.specs.Source.{HasPieces, made_from}
use Rattle.convert_steps.specs.file_items.Names.{Indexed, indexed_in}
use Rattle.convert_steps.specs.file_items.Tree.{Source, kind_in, ino_of, fs_tree_items}
use Rattle.convert_steps.specs.reiser_volume_objects.declared.key.ObjectKey.{ObjectKey}
use Rattle.convert_steps.specs.reiser_volume.Numbers.{by_inode}
use Rattle.convert_steps.specs.reiser_volume.declared.volume.Volume.{Volume}
use Rattle.convert_steps.specs.convert_options.declared.options.Options.{Options}
use Rattle.convert_steps.specs.unit_plan.declared.piece.Piece.{Piece}
use Rattle.convert_steps.specs.unit_plan.declared.plan.Plan.{Plan}

-- an entry without the leaf that it stands in
abbrev pub unplaced : DirIndex → DirIndex
unplaced n = record n { leaf = 0 }

-- an entry of the directory with this inode
abbrev pub naming_by : ℕ → Indexed → DirIndex
naming_by ino e = record { leaf = 0; dir = ino; index = e.0; location = e.1.location; name = e.1.name }

-- those of an object of a kind
abbrev pub namings_by : Source → ObjectKey → Kind → List DirIndex
namings_by s key Directory = map (naming_by (ino_of s key)) (indexed_in (kind_in s) s.keys s.links key)
namings_by s key File = []
namings_by s key Symlink = []
namings_by s key Character = []
namings_by s key Block = []
namings_by s key Fifo = []
namings_by s key Socket = []
namings_by s key Subvolume = []

-- The entries that are read of a tree with these items, in any leaves, are those of the directories, one directory after the
-- other.
abbrev pub EntriesAreThere : Type 0
EntriesAreThere =
    (volume : Volume) (image : Image) (o : Options) (plan : Plan) (pieces : List Piece) (items : List TreeItem) → HasPieces volume image o plan pieces → map bare_item items ≡ fs_tree_items (made_from volume image o pieces)
    → map unplaced (dir_indexes items)
    ≡ flat_map (λ key. namings_by (made_from volume image o pieces) key (kind_in (made_from volume image o pieces) key)) (by_inode (made_from volume image o pieces).keys)
