-- Keys, as the Btrfs on-disk format documentation has them (struct btrfs_disk_key).
use Rattle.std.specs.Prelude.{◌≡◌, ℕ, List, drop, Option}
use Rattle.std.specs.declared.cmp.Ordering.{Ordering}
use Rattle.std.specs.declared.cmp.Ordering.TheVariants.{Less}
use Rattle.std.specs.Ordering.{nat_cmp, ordering_then}
use Rattle.vol_block.specs.btrfs_format.declared.size.TheConstants.{KEY_SIZE}
use Rattle.btr_keys.specs.Layout.{Layout, made_by, ◌▸◌, u8, u64, whole, spelling}
use Rattle.btr_keys.specs.declared.key.Key.{Key}

abbrev pub make_key : ℕ → ℕ → ℕ → Key
make_key objectid kind offset = record { objectid = objectid; kind = kind; offset = offset }

unfoldable pub key_layout : Layout Key Key
key_layout =
    made_by make_key
    ▸ u64 (λ k. k.objectid)
    ▸ u8 (λ k. k.kind)
    ▸ u64 (λ k. k.offset)

-- the key in the 17 bytes from a place on
abbrev pub key_in_bytes : List ℕ → ℕ → Key
key_in_bytes bytes at = key_layout.read (drop at bytes)

-- the key that is the whole body
abbrev pub key_of : List ℕ → Option Key
key_of body = whole KEY_SIZE key_layout body

-- the 17 bytes of a key
abbrev pub key_bytes : Key → List ℕ
key_bytes key = spelling key_layout key

-- by objectid, then by kind, then by offset
abbrev pub key_cmp : Key → Key → Ordering
key_cmp a b = ordering_then (nat_cmp a.objectid b.objectid) (ordering_then (nat_cmp a.kind b.kind) (nat_cmp a.offset b.offset))

abbrev pub IsBefore : Key → Key → Type 0
IsBefore a b = key_cmp a b ≡ Less
