-- Bodies of inode refs, as the Btrfs on-disk format documentation has them (struct btrfs_inode_ref).
use Rattle.std.specs.Prelude.{ℕ, List, length, take, drop, Option}
use Rattle.vol_block.specs.btrfs_format.declared.size.TheConstants.{INODE_REF_SIZE}
use Rattle.btr_keys.specs.Layout.{Layout, made_by, ◌▸◌, u16, u64}
use Rattle.btr_keys.specs.Repeated.{behind_named, records, at_least_one}
use Rattle.btr_keys.specs.declared.inode_ref.InodeRef.{InodeRef}

-- a record without where its name lies in memory
pub record InodeRefValue : Type 0 where
  pub index : ℕ
  pub name : List ℕ

abbrev pub inode_ref_value : InodeRef → InodeRefValue
inode_ref_value r = record { index = r.index; name = r.name.now }

abbrev pub make_inode_ref : ℕ → ℕ → List ℕ → InodeRefValue
make_inode_ref index name_length behind = record { index = index; name = take name_length behind }

-- what stands before the name
unfoldable pub inode_ref_head : Layout InodeRefValue (List ℕ → InodeRefValue)
inode_ref_head =
    made_by make_inode_ref
    ▸ u64 (λ r. r.index)
    ▸ u16 (λ r. length r.name)

-- the record that bytes begin with
abbrev pub inode_ref_front : List ℕ → InodeRefValue
inode_ref_front bytes = inode_ref_head.read bytes (drop INODE_REF_SIZE bytes)

-- the records that a body is, at least one
abbrev pub inode_refs_of : List ℕ → Option (List InodeRefValue)
inode_refs_of body = at_least_one (records (behind_named INODE_REF_SIZE 8) inode_ref_front body)

-- the bytes of one record
abbrev pub inode_ref_bytes : InodeRefValue → List ℕ
inode_ref_bytes r = inode_ref_head.spell r r.name
