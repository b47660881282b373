-- Bodies of extrefs, as the Btrfs on-disk format documentation has them (struct btrfs_inode_extref).
use Rattle.std.specs.Prelude.{ℕ, List, length, take, drop, Option}
use Rattle.vol_block.specs.btrfs_format.declared.size.TheConstants.{INODE_EXTREF_SIZE}
use Rattle.btr_keys.specs.Layout.{Layout, made_by, ◌▸◌, u16, u64}
use Rattle.btr_keys.specs.Repeated.{behind_named, records, at_least_one}
use Rattle.btr_keys.specs.declared.extref.Extref.{Extref}

-- a record without where its name lies in memory
pub record ExtrefValue : Type 0 where
  pub parent : ℕ
  pub index : ℕ
  pub name : List ℕ

abbrev pub extref_value : Extref → ExtrefValue
extref_value r = record { parent = r.parent; index = r.index; name = r.name.now }

abbrev pub make_extref : ℕ → ℕ → ℕ → List ℕ → ExtrefValue
make_extref parent index name_length behind = record { parent = parent; index = index; name = take name_length behind }

-- what stands before the name
unfoldable pub extref_head : Layout ExtrefValue (List ℕ → ExtrefValue)
extref_head =
    made_by make_extref
    ▸ u64 (λ r. r.parent)
    ▸ u64 (λ r. r.index)
    ▸ u16 (λ r. length r.name)

-- the record that bytes begin with
abbrev pub extref_front : List ℕ → ExtrefValue
extref_front bytes = extref_head.read bytes (drop INODE_EXTREF_SIZE bytes)

-- the records that a body is, at least one
abbrev pub extrefs_of : List ℕ → Option (List ExtrefValue)
extrefs_of body = at_least_one (records (behind_named INODE_EXTREF_SIZE 16) extref_front body)

-- the bytes of one record
abbrev pub extref_bytes : ExtrefValue → List ℕ
extref_bytes r = extref_head.spell r r.name
