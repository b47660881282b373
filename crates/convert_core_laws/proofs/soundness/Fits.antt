-- Entries of directories fit, and are on the form of entries.
use Rattle.convert_core_laws.proofs.Imports.{◌≤◌, ◌<◌, ℕ, ◌+◌, ◌^◌, inl, inr, refl, List, length, arith, ◌-◌, dir_entry_head, DirEntryValue, key_layout, make_key, entry_kind, entry_to, saved_entry, Kind, Directory, File, Symlink, Character, Block, Fifo, Socket, Subvolume, IsEntry, FS_TREE, ROOT_ITEM, FT_DIR, default_name}

kind_low : (kind : Kind) → entry_kind kind < 256
kind_low File = omega arith
kind_low Directory = omega arith
kind_low Character = omega arith
kind_low Block = omega arith
kind_low Fifo = omega arith
kind_low Socket = omega arith
kind_low Symlink = omega arith
kind_low Subvolume = omega arith

pub entry_fits : (ino : ℕ) (kind : Kind) (name : List ℕ) → ino < 2 ^ 64 → length name ≤ 255 → dir_entry_head.fits (entry_to ino kind name)
unfolding dir_entry_head key_layout
entry_fits ino kind name low short = let small = kind_low kind in (((((tt, (((tt, omega (arith, low)), omega arith), omega arith)), omega arith), omega arith), omega (arith, short)), small)

pub saved_fits : dir_entry_head.fits saved_entry
unfolding dir_entry_head key_layout
saved_fits = (((((tt, (((tt, omega arith), omega arith), omega arith)), omega arith), omega arith), omega arith), omega arith)

-- ---- their form

kind_known : (kind : Kind) → (1 ≤ entry_kind kind) × (entry_kind kind ≤ 7)
kind_known File = (omega arith, omega arith)
kind_known Directory = (omega arith, omega arith)
kind_known Character = (omega arith, omega arith)
kind_known Block = (omega arith, omega arith)
kind_known Fifo = (omega arith, omega arith)
kind_known Socket = (omega arith, omega arith)
kind_known Symlink = (omega arith, omega arith)
kind_known Subvolume = (omega arith, omega arith)

pub is_entry : (ino : ℕ) (kind : Kind) (name : List ℕ) → 256 ≤ ino → ino + 256 ≤ 2 ^ 64 → IsEntry (entry_to ino kind name)
is_entry ino kind name low high = record { data_ = refl; kind = kind_known kind; target = inl (refl, refl, (low, high)) }

pub saved_is_entry : IsEntry saved_entry
saved_is_entry = record { data_ = refl; kind = (omega arith, omega arith); target = inr (refl, refl) }

-- the entry that names tree 5 as the one to mount
abbrev pub default_value : DirEntryValue
default_value = record { location = make_key FS_TREE ROOT_ITEM (2 ^ 64 - 1); transid = 1; data_length = 0; kind = FT_DIR; name = default_name }

pub default_fits : dir_entry_head.fits default_value
unfolding dir_entry_head key_layout
default_fits = (((((tt, (((tt, omega arith), omega arith), omega arith)), omega arith), omega arith), omega arith), omega arith)
