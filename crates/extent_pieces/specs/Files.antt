-- The files of a volume: which used blocks they own, which of their blocks are tails, and which bytes stay in the tree.
use Rattle.std.specs.Prelude.{ℕ, ◌==◌, Bool, false, List, [], ◌∷◌, map, filter, Option, Some, None, if◌then◌else◌}
use Rattle.std.specs.Int.{div_ceil}
use Rattle.std.specs.List.{find, flat_map, range_with_len}
use Rattle.std.specs.Option.{option_map, option_or}
use Rattle.reiser_volume.specs.reiser_walk.Items.{ReiserItem}
use Rattle.reiser_volume_files.specs.declared.map.RunFrom.{RunFrom}
use Rattle.reiser_volume_files.specs.declared.map.RunFrom.TheVariants.{Disk, Tail}
use Rattle.reiser_volume_files.specs.Runs.{block_from}
use Rattle.reiser_volume_objects.specs.declared.key.ObjectKey.{ObjectKey}
use Rattle.reiser_volume_objects.specs.Keys.{items_of}
use Rattle.reiser_volume_objects.specs.Kinds.{is_file, is_symlink}
use Rattle.reiser_volume.specs.reiser_volume_names.Names.{ino_of_key}
use Rattle.reiser_volume_objects.specs.fs_rows.declared.row.Kind.TheVariants.{File}
use Rattle.reiser_volume.specs.Inline.{stays_in_tree, is_tail}
use Rattle.reiser_volume.specs.Made.{stat_at, kind_by}
use Rattle.extent_pieces.specs.declared.tail.Tail.{Tail as TailBlock}

-- A named file or symlink: its inode number on the converted volume, its items, and its size in bytes.
pub record FileAt : Type 0 where
  pub inode : ℕ
  pub items : List ReiserItem
  pub size : ℕ

-- the object of a key; the root has the inode number 256, and the others have 257 and up in the order of their keys
abbrev pub file_at : List ReiserItem → List ObjectKey → ObjectKey → FileAt
file_at items keys key = record { inode = ino_of_key keys key; items = items_of key items; size = (stat_at items key).fields.size }

abbrev pub is_file_at : List ReiserItem → ObjectKey → Bool
is_file_at items key = is_file (kind_by (stat_at items key))

abbrev pub is_symlink_at : List ReiserItem → ObjectKey → Bool
is_symlink_at items key = is_symlink (kind_by (stat_at items key))

-- the regular files among some of the named objects, and the symlinks, in the order of these
unfoldable pub files_among : List ReiserItem → List ObjectKey → List ObjectKey → List FileAt
files_among items keys some = map (file_at items keys) (filter (is_file_at items) some)

unfoldable pub symlinks_among : List ReiserItem → List ObjectKey → List ObjectKey → List FileAt
symlinks_among items keys some = map (file_at items keys) (filter (is_symlink_at items) some)

-- those of the volume, in the order of their inodes where the keys ascend
abbrev pub files : List ReiserItem → List ObjectKey → List FileAt
files items keys = files_among items keys keys

abbrev pub symlinks : List ReiserItem → List ObjectKey → List FileAt
symlinks items keys = symlinks_among items keys keys

-- the numbers of a file's blocks, as far as its size goes
abbrev pub file_blocks : FileAt → List ℕ
file_blocks f = range_with_len 0 (div_ceil f.size 4096)

-- file block k lies in block b of the volume
abbrev pub is_in_block : ℕ → Option RunFrom → Bool
is_in_block b None = false
is_in_block b (Some (Disk block)) = b == block
is_in_block b (Some Tail) = false

abbrev pub owns : FileAt → ℕ → ℕ → Bool
owns f b k = is_in_block b (block_from f.items f.size k)

abbrev pub has_tail : FileAt → ℕ → Bool
has_tail f k = is_tail (block_from f.items f.size k)

-- Who owns a block of the volume: the inode number of a file, and the number of the file's block that lies there. In an
-- accepted volume no block has two owners.
unfoldable pub owner : List FileAt → ℕ → Option (ℕ × ℕ)
owner [] b = None
owner (f ∷ fs) b = option_or (option_map (λ k. (f.inode, k)) (find (owns f b) (file_blocks f))) (owner fs b)

-- A file of at most 2048 bytes whose block lies in direct items stays in the tree, where the options say so. It has at least
-- one byte, and it owns no block.
abbrev pub is_file_inline : Bool → FileAt → Bool
is_file_inline inline f = stays_in_tree inline f.items f.size File

-- the blocks of a file that lie in direct items, each with the inode number
abbrev pub file_tails : Bool → FileAt → List TailBlock
file_tails inline f = if is_file_inline inline f then [] else map (λ k. record { inode = f.inode; at = k }) (filter (has_tail f) (file_blocks f))

-- by inode and file block
abbrev pub tails : Bool → List FileAt → List TailBlock
tails inline fs = flat_map (file_tails inline) fs

-- the sizes of the files and symlinks whose bytes stay in the tree: all symlinks do
abbrev pub inline_files : Bool → List FileAt → List FileAt
inline_files inline fs = filter (is_file_inline inline) fs
