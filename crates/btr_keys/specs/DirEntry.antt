-- Bodies of dir items and dir indexes, as the Btrfs on-disk format documentation has them (struct btrfs_dir_item).
use Rattle.std.specs.Prelude.{ℕ, List, length, take, drop, Option}
use Rattle.vol_block.specs.btrfs_format.declared.size.TheConstants.{DIR_ITEM_SIZE}
use Rattle.btr_keys.specs.Layout.{Layout, made_by, ◌▸◌, u8, u16, u64, part}
use Rattle.btr_keys.specs.Key.{key_layout}
use Rattle.btr_keys.specs.Repeated.{behind_named, records, at_least_one}
use Rattle.btr_keys.specs.declared.key.Key.{Key}
use Rattle.btr_keys.specs.declared.dir_entry.DirEntry.{DirEntry}

-- a record without where its name lies in memory
pub record DirEntryValue : Type 0 where
  pub location : Key
  pub transid : ℕ
  pub data_length : ℕ
  pub kind : ℕ
  pub name : List ℕ

abbrev pub dir_entry_value : DirEntry → DirEntryValue
dir_entry_value e = record { location = e.location; transid = e.transid; data_length = e.data_length; kind = e.kind; name = e.name.now }

abbrev pub make_dir_entry : Key → ℕ → ℕ → ℕ → ℕ → List ℕ → DirEntryValue
make_dir_entry location transid data_length name_length kind behind =
    record { location = location; transid = transid; data_length = data_length; kind = kind; name = take name_length behind }

-- what stands before the name
unfoldable pub dir_entry_head : Layout DirEntryValue (List ℕ → DirEntryValue)
dir_entry_head =
    made_by make_dir_entry
    ▸ part key_layout (λ e. e.location)
    ▸ u64 (λ e. e.transid)
    ▸ u16 (λ e. e.data_length)
    ▸ u16 (λ e. length e.name)
    ▸ u8 (λ e. e.kind)

-- the record that bytes begin with
abbrev pub dir_entry_front : List ℕ → DirEntryValue
dir_entry_front bytes = dir_entry_head.read bytes (drop DIR_ITEM_SIZE bytes)

-- the records that a body is, at least one
abbrev pub dir_items_of : List ℕ → Option (List DirEntryValue)
dir_items_of body = at_least_one (records (behind_named DIR_ITEM_SIZE 27) dir_entry_front body)

-- the bytes of one record
abbrev pub dir_entry_bytes : DirEntryValue → List ℕ
dir_entry_bytes e = dir_entry_head.spell e e.name
