-- What Linux asks of the fields of an inode, as tests.
use Rattle.std.specs.Prelude.{ℕ, ◌+◌, ◌^◌, ◌==◌, nat_le, nat_lt, Bool, true, false, not, ◌&&◌, bit_and, Option, Some, None}
use Rattle.btr_check_rules.specs.btr_reader.btr_reader_walk.btr_keys.btrfs_format.declared.flag.TheConstants.{INODE_APPEND, INODE_IMMUTABLE}
use Rattle.btr_check_rules.specs.btr_reader.fs_rows.declared.row.Kind.{Kind}
use Rattle.btr_check_rules.specs.btr_reader.fs_rows.declared.row.Kind.TheVariants.{Directory, File, Symlink, Character, Block, Fifo, Socket, Subvolume}
use Rattle.btr_check_rules.specs.btr_reader.btr_keys.declared.inode.Inode.{Inode}
use Rattle.btr_check_rules.specs.btr_reader.btr_reader_names.Inodes.{kind_of_mode}
use Rattle.btr_check_rules.specs.btr_reader.btr_super.declared.superblock.Super.{Super}
use Rattle.btr_check_rules.specs.Inodes.{has_no_sums, other_flags}

-- what is asked of an inode of a kind alone
abbrev pub fits_kind : Inode → Kind → Bool
fits_kind inode File = true
fits_kind inode Symlink = not (has_no_sums inode) && (bit_and inode.flags (INODE_IMMUTABLE + INODE_APPEND) == 0)
fits_kind inode Directory = not (has_no_sums inode) && nat_le inode.nlink 1
fits_kind inode Character = not (has_no_sums inode)
fits_kind inode Block = not (has_no_sums inode)
fits_kind inode Fifo = not (has_no_sums inode)
fits_kind inode Socket = not (has_no_sums inode)
fits_kind inode Subvolume = not (has_no_sums inode)

abbrev pub fits_some_kind : Inode → Option Kind → Bool
fits_some_kind inode None = false
fits_some_kind inode (Some kind) = fits_kind inode kind

abbrev pub is_recent : Super → ℕ → Bool
is_recent s generation = nat_le generation (s.generation + 1)

abbrev pub keeps_fields : Super → Inode → Bool
keeps_fields s inode =
    nat_lt inode.mode (2 ^ 16)
    && (is_recent s inode.generation
    && (is_recent s inode.transid && ((bit_and inode.flags other_flags == 0) && fits_some_kind inode (kind_of_mode inode.mode))))
