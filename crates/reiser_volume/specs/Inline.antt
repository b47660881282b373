-- Which files and symlinks have their bytes in the tree of the converted volume.
use Rattle.std.specs.Prelude.{ℕ, nat_le, Bool, true, false, ◌&&◌, Option, Some, None, List}
use Rattle.fs_rows.specs.declared.row.Kind.{Kind}
use Rattle.fs_rows.specs.declared.row.Kind.TheVariants.{Directory, File, Symlink, Character, Block, Fifo, Socket, Subvolume}
use Rattle.reiser_volume_files.specs.declared.map.RunFrom.{RunFrom}
use Rattle.reiser_volume_files.specs.declared.map.RunFrom.TheVariants.{Disk, Tail}
use Rattle.reiser_volume_files.specs.Runs.{block_from}
use Rattle.reiser_volume_objects.specs.reiser_walk.Items.{ReiserItem}

-- a block of a file lies in direct items
abbrev pub is_tail : Option RunFrom → Bool
is_tail None = false
is_tail (Some (Disk block)) = false
is_tail (Some Tail) = true

-- A file of at most 2048 bytes is inline where that is asked for and its only block lies in direct items: so it has at least
-- one byte. A symlink always is.
abbrev pub stays_in_tree : Bool → List ReiserItem → ℕ → Kind → Bool
stays_in_tree inline items size File = inline && (nat_le size 2048 && is_tail (block_from items size 0))
stays_in_tree inline items size Symlink = true
stays_in_tree inline items size Directory = false
stays_in_tree inline items size Character = false
stays_in_tree inline items size Block = false
stays_in_tree inline items size Fifo = false
stays_in_tree inline items size Socket = false
stays_in_tree inline items size Subvolume = false
