-- Kinds of objects, and which of them have what.
use Rattle.std.specs.Prelude.{ℕ, ◌==◌, Bool, true, false, Option, Some, None, if◌then◌else◌}
use Rattle.vol_block.specs.declared.mode.TheConstants.{DT_BLK, DT_CHR, DT_DIR, DT_FIFO, DT_LNK, DT_REG, DT_SOCK}
use Rattle.fs_rows.specs.declared.row.Kind.{Kind}
use Rattle.fs_rows.specs.declared.row.Kind.TheVariants.{Directory, File, Symlink, Character, Block, Fifo, Socket, Subvolume}

-- the kind by the four bits of a mode that stat(2) has for it
abbrev pub kind_of_code : ℕ → Option Kind
kind_of_code code =
    if code == DT_DIR then Some Directory
    else (if code == DT_REG then Some File
    else (if code == DT_LNK then Some Symlink
    else (if code == DT_CHR then Some Character
    else (if code == DT_BLK then Some Block
    else (if code == DT_FIFO then Some Fifo
    else (if code == DT_SOCK then Some Socket else None))))))

abbrev pub is_directory : Kind → Bool
is_directory Directory = true
is_directory File = false
is_directory Symlink = false
is_directory Character = false
is_directory Block = false
is_directory Fifo = false
is_directory Socket = false
is_directory Subvolume = false

abbrev pub is_file : Kind → Bool
is_file Directory = false
is_file File = true
is_file Symlink = false
is_file Character = false
is_file Block = false
is_file Fifo = false
is_file Socket = false
is_file Subvolume = false

abbrev pub is_symlink : Kind → Bool
is_symlink Directory = false
is_symlink File = false
is_symlink Symlink = true
is_symlink Character = false
is_symlink Block = false
is_symlink Fifo = false
is_symlink Socket = false
is_symlink Subvolume = false

-- a device has a major and a minor number
abbrev pub is_device : Kind → Bool
is_device Directory = false
is_device File = false
is_device Symlink = false
is_device Character = true
is_device Block = true
is_device Fifo = false
is_device Socket = false
is_device Subvolume = false

-- a file has its bytes, and a symlink those of its target
abbrev pub has_bytes : Kind → Bool
has_bytes Directory = false
has_bytes File = true
has_bytes Symlink = true
has_bytes Character = false
has_bytes Block = false
has_bytes Fifo = false
has_bytes Socket = false
has_bytes Subvolume = false
