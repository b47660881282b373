-- The items of the file tree, number 5: one object after the other.
use Rattle.std.specs.Prelude.{ℕ, ◌*◌, Bool, List, [], ◌∷◌, ◌++◌, count_by, if◌then◌else◌}
use Rattle.std.specs.List.{flat_map}
use Rattle.indexmap.specs.IndexMap.{keys}
use Rattle.reiser_volume.specs.outside.History.{Image}
use Rattle.unit_plan.specs.btr_keys.declared.inode.Inode.{Inode}
use Rattle.unit_plan.specs.btr_node.Leaf.{Item}
use Rattle.reiser_volume_objects.specs.fs_rows.Kinds.{is_directory}
use Rattle.reiser_volume_objects.specs.fs_rows.declared.row.Kind.{Kind}
use Rattle.reiser_volume_objects.specs.fs_rows.declared.row.Kind.TheVariants.{Directory, File, Symlink, Character, Block, Fifo, Socket, Subvolume}
use Rattle.reiser_volume_files.specs.Bytes.{target_bytes}
use Rattle.reiser_volume.specs.reiser_volume_names.Names.{ino_of_key}
use Rattle.reiser_volume_objects.specs.declared.key.ObjectKey.{ObjectKey}
use Rattle.reiser_volume_objects.specs.declared.naming.Naming.{Naming}
use Rattle.reiser_volume_objects.specs.declared.stat.ObjectStat.{ObjectStat}
use Rattle.reiser_volume_objects.specs.Keys.{root, same_key, items_of}
use Rattle.reiser_volume.specs.Inline.{stays_in_tree}
use Rattle.reiser_volume.specs.Made.{stat_at, kind_by}
use Rattle.reiser_volume.specs.Opened.{links_in}
use Rattle.reiser_volume.specs.Volume.{volume_items}
use Rattle.reiser_volume.specs.declared.volume.Volume.{Volume}
use Rattle.reiser_volume.specs.reiser_walk.Items.{ReiserItem}
use Rattle.unit_plan.specs.declared.piece.Piece.{Piece}
use Rattle.reiser_volume.specs.Numbers.{by_inode}
use Rattle.file_items.specs.Names.{inode_refs, extrefs, root_ref, indexed_in, letters, entry_items}
use Rattle.btr_item_list.specs.Extents.{inline_extent, extent_item}
use Rattle.btr_item_list.specs.Inodes.{inode_item}
use Rattle.file_items.specs.Extents.{pieces_of, file_block, piece_bytes, extents_at}
use Rattle.file_items.specs.Inodes.{inode_from}

-- What the tree is made from: the superblock's flags and the items of the volume's tree, the named objects by their keys, the
-- links in the order of the items, the pieces, and whether small files are inline and data has checksums.
pub record Source : Type 0 where
  pub flags : ℕ
  pub items : List ReiserItem
  pub keys : List ObjectKey
  pub links : List Naming
  pub pieces : List Piece
  pub inline : Bool
  pub datasum : Bool

-- an opened volume
abbrev pub source_of : Volume → List Piece → Bool → Bool → Image → Source
source_of volume pieces inline datasum image = record {
  flags = volume.sup.flags;
  items = volume_items image;
  keys = keys volume.named;
  links = links_in volume;
  pieces = pieces;
  inline = inline;
  datasum = datasum;
}

abbrev pub ino_of : Source → ObjectKey → ℕ
ino_of s key = ino_of_key s.keys key

abbrev pub stat_in : Source → ObjectKey → ObjectStat
stat_in s key = stat_at s.items key

abbrev pub kind_in : Source → ObjectKey → Kind
kind_in s key = kind_by (stat_in s key)

abbrev pub size_in : Source → ObjectKey → ℕ
size_in s key = (stat_in s key).fields.size

-- an inline file or symlink
abbrev pub inline_in : Source → ObjectKey → Bool
inline_in s key = stays_in_tree s.inline (items_of key s.items) (size_in s key) (kind_in s key)

-- Twice the bytes of all names of a directory, the bytes of a file or of a target, else 0.
abbrev pub size_by : Source → ObjectKey → Kind → ℕ
size_by s key Directory = 2 * letters (indexed_in (kind_in s) s.keys s.links key)
size_by s key File = size_in s key
size_by s key Symlink = size_in s key
size_by s key Character = 0
size_by s key Block = 0
size_by s key Fifo = 0
size_by s key Socket = 0
size_by s key Subvolume = 0

-- the bytes of the extents of a file
abbrev pub nbytes_by : Source → ObjectKey → ℕ
nbytes_by s key = if inline_in s key then size_in s key else piece_bytes (pieces_of s.pieces (ino_of s key))

-- a directory has one name, any other object all of its links
abbrev pub link_count : Source → ObjectKey → ℕ
link_count s key = if is_directory (kind_in s key) then 1 else count_by (λ n. same_key n.target key) s.links

unfoldable pub inode_in : Source → ObjectKey → Inode
inode_in s key =
    inode_from s.datasum s.flags (stat_in s key) (kind_in s key) (size_by s key (kind_in s key)) (nbytes_by s key) (link_count s key)

-- the names of an object as its references tell them
unfoldable pub name_items : Source → ObjectKey → List Item
name_items s key = if same_key key root then root_ref ∷ [] else inode_refs s.keys s.links key ++ extrefs s.keys s.links key

-- The extents of a file or a symlink. An inline one has the bytes that its direct items hold.
unfoldable pub file_extent_items : Source → ObjectKey → List Item
file_extent_items s key =
    if inline_in s key
    then extent_item (ino_of s key) 0 (inline_extent (target_bytes (items_of key s.items) (size_in s key))) ∷ []
    else extents_at (ino_of s key) file_block (pieces_of s.pieces (ino_of s key))

-- what an object holds
abbrev pub content_items : Source → ObjectKey → Kind → List Item
content_items s key Directory = entry_items (ino_of s key) (indexed_in (kind_in s) s.keys s.links key)
content_items s key File = file_extent_items s key
content_items s key Symlink = file_extent_items s key
content_items s key Character = []
content_items s key Block = []
content_items s key Fifo = []
content_items s key Socket = []
content_items s key Subvolume = []

-- the items of an object
unfoldable pub object_items : Source → ObjectKey → List Item
object_items s key = inode_item (ino_of s key) (inode_in s key) ∷ (name_items s key ++ content_items s key (kind_in s key))

-- The items of the tree.
unfoldable pub fs_tree_items : Source → List Item
fs_tree_items s = flat_map (object_items s) (by_inode s.keys)
