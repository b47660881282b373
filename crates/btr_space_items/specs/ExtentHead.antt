-- The first bytes of extent and metadata items, as the Btrfs on-disk format documentation has them (struct btrfs_extent_item).
use Rattle.std.specs.Prelude.{ℕ, List, drop, Option, Some, None, length, nat_lt, if◌then◌else◌}
use Rattle.btr_keys.specs.Layout.{Layout, made_by, ◌▸◌, u64, spelling}
use Rattle.btr_space_items.specs.declared.extent_head.ExtentHead.{ExtentHead}

abbrev pub make_extent_head : ℕ → ℕ → ℕ → ExtentHead
make_extent_head refs generation flags =
    record {
      refs = refs;
      generation = generation;
      flags = flags;
    }

unfoldable pub extent_head_layout : Layout ExtentHead ExtentHead
extent_head_layout =
    made_by make_extent_head
    ▸ u64 (λ v. v.refs)
    ▸ u64 (λ v. v.generation)
    ▸ u64 (λ v. v.flags)

-- the value in the 24 bytes from a place on
abbrev pub extent_head_at : List ℕ → ℕ → ExtentHead
extent_head_at bytes at = extent_head_layout.read (drop at bytes)

-- what a body begins with
abbrev pub extent_head_of : List ℕ → Option ExtentHead
extent_head_of body = if nat_lt (length body) 24 then None else Some (extent_head_layout.read body)

-- the 24 bytes of a value
abbrev pub extent_head_bytes : ExtentHead → List ℕ
extent_head_bytes value = spelling extent_head_layout value
