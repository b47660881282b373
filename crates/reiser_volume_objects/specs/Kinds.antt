-- Kinds of objects: the high four bits of the mode in the stat data, as `stat` has them.
use Rattle.std.specs.Prelude.{ℕ, ◌/◌, ◌^◌, ◌==◌, nat_le, Bool, true, ◌||◌, Option}
use Rattle.reiser_bitmap.specs.vol_block.declared.mode.TheConstants.{DT_DIR}
use Rattle.reiser_items.specs.reiser_node.declared.head.ItemKind.{ItemKind}
use Rattle.reiser_items.specs.reiser_node.declared.head.ItemKind.TheVariants.{Stat, Indirect, Direct, Directory as Entries}
pub use Rattle.fs_paths.specs.fs_rows.Kinds.{kind_of_code, is_directory, is_file, is_symlink}
use Rattle.fs_paths.specs.fs_rows.declared.row.Kind.{Kind}
use Rattle.fs_paths.specs.fs_rows.declared.row.Kind.TheVariants.{Directory, File, Symlink, Character, Block, Fifo, Socket, Subvolume}

abbrev pub kind_of_mode : ℕ → Option Kind
kind_of_mode mode = kind_of_code (mode / 4096)

-- Which items an object of a kind may have: stat data, a directory its entries, a file pointers and bytes, a symlink bytes.
abbrev pub may_have : Kind → ItemKind → Bool
may_have kind Stat = true
may_have kind Indirect = is_file kind
may_have kind Direct = is_file kind || is_symlink kind
may_have kind Entries = is_directory kind

-- a file has at most 2^44 bytes, and the target of a symlink at least one
abbrev pub fits_size : Kind → ℕ → Bool
fits_size File size = nat_le size (2 ^ 44)
fits_size Symlink size = nat_le 1 size
fits_size Directory size = true
fits_size Character size = true
fits_size Block size = true
fits_size Fifo size = true
fits_size Socket size = true
fits_size Subvolume size = true

-- the same bits as a test
abbrev pub is_directory_mode : ℕ → Bool
is_directory_mode mode = mode / 4096 == DT_DIR
