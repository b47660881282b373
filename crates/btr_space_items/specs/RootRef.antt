-- Bodies of root refs and root backrefs, as the Btrfs on-disk format documentation has them (struct btrfs_root_ref).
use Rattle.std.specs.Prelude.{ℕ, ◌+◌, ◌==◌, nat_lt, if◌then◌else◌, List, length, take, drop, Option, Some, None}
use Rattle.btr_keys.specs.btrfs_format.declared.size.TheConstants.{ROOT_REF_SIZE}
use Rattle.btr_keys.specs.vol_block.Volume.{field}
use Rattle.btr_keys.specs.Layout.{Layout, made_by, ◌▸◌, u16, u64}
use Rattle.btr_space_items.specs.declared.root_ref.RootRef.{RootRef}

-- a root ref without where its name lies in memory
pub record RootRefValue : Type 0 where
  pub dirid : ℕ
  pub sequence : ℕ
  pub name : List ℕ

abbrev pub root_ref_value : RootRef → RootRefValue
root_ref_value r = record { dirid = r.dirid; sequence = r.sequence; name = r.name.now }

abbrev pub make_root_ref : ℕ → ℕ → ℕ → List ℕ → RootRefValue
make_root_ref dirid sequence name_length behind = record { dirid = dirid; sequence = sequence; name = take name_length behind }

-- what stands before the name
unfoldable pub root_ref_head : Layout RootRefValue (List ℕ → RootRefValue)
root_ref_head =
    made_by make_root_ref
    ▸ u64 (λ r. r.dirid)
    ▸ u64 (λ r. r.sequence)
    ▸ u16 (λ r. length r.name)

-- the root ref that is the whole body
abbrev pub root_ref_of : List ℕ → Option RootRefValue
root_ref_of body =
    if nat_lt (length body) 18 then None
    else (if length body == ROOT_REF_SIZE + field 2 body 16 then Some (root_ref_head.read body (drop ROOT_REF_SIZE body)) else None)

-- the bytes of a root ref
abbrev pub root_ref_bytes : RootRefValue → List ℕ
root_ref_bytes r = root_ref_head.spell r r.name
