-- The inodes of a file tree, and what they are.
use Rattle.std.specs.Prelude.{◌≡◌, ℕ, ◌/◌, ◌%◌, ◌==◌, Bool, ◌&&◌, if◌then◌else◌, List, [], ◌∷◌, Option, Some, None}
use Rattle.std.specs.Option.{option_and_then}
use Rattle.btr_reader_walk.specs.btrfs_format.declared.key.TheConstants.{INODE_ITEM}
use Rattle.btr_reader_walk.specs.vol_block.declared.mode.TheConstants.{DT_BLK, DT_CHR, DT_DIR, DT_FIFO, DT_LNK, DT_REG, DT_SOCK}
use Rattle.btr_reader_walk.specs.btr_keys.Inode.{inode_of}
use Rattle.btr_reader_walk.specs.btr_keys.declared.inode.Inode.{Inode}
use Rattle.fs_paths.specs.fs_rows.declared.row.Kind.{Kind}
use Rattle.fs_paths.specs.fs_rows.declared.row.Kind.TheVariants.{Directory, File, Symlink, Character, Block, Fifo, Socket}
use Rattle.btr_reader_walk.specs.Events.{TreeItem}
use Rattle.btr_reader_names.specs.declared.inodes.InodeFound.{InodeFound}

-- the item is the inode item of this inode
abbrev pub is_inode_of : ℕ → TreeItem → Bool
is_inode_of ino i = (i.key.objectid == ino) && ((i.key.kind == INODE_ITEM) && (i.key.offset == 0))

abbrev pub find_inode_item : List TreeItem → ℕ → Option TreeItem
find_inode_item [] ino = None
find_inode_item (i ∷ items) ino = if is_inode_of ino i then Some i else find_inode_item items ino

-- what the highest four of the low sixteen bits of a mode say, as stat(2) has them
abbrev pub kind_of_mode : ℕ → Option Kind
kind_of_mode mode =
    let type = mode / 4096 % 16 in
    if type == DT_DIR then Some Directory
    else (if type == DT_REG then Some File
    else (if type == DT_LNK then Some Symlink
    else (if type == DT_CHR then Some Character
    else (if type == DT_BLK then Some Block
    else (if type == DT_FIFO then Some Fifo
    else (if type == DT_SOCK then Some Socket else None))))))

-- the inode with this number, where its item is there and on its grammar
abbrev pub inode_on : List TreeItem → ℕ → Option Inode
inode_on items ino = option_and_then (λ i. inode_of i.body) (find_inode_item items ino)

-- it is there, and of this kind
abbrev pub HasKind : List TreeItem → ℕ → Kind → Type 0
HasKind items ino kind = (inode : Inode) × (inode_on items ino ≡ Some inode) × (kind_of_mode inode.mode ≡ Some kind)

abbrev pub IsDirectoryInode : List TreeItem → ℕ → Type 0
IsDirectoryInode items ino = HasKind items ino Directory

-- the first one of two
abbrev pub first_item : Option TreeItem → Option TreeItem → Option TreeItem
first_item None second = second
first_item (Some i) second = Some i

-- an inode item that was found, by its leaf and its inode
abbrev pub TellsInode : Option InodeFound → Option TreeItem → Type 0
TellsInode None None = Unit {0}
TellsInode None (Some i) = ⊥
TellsInode (Some f) None = ⊥
TellsInode (Some f) (Some i) = (f.leaf ≡ i.leaf) × (f.inode ≡ inode_of i.body)
