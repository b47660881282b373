-- The body of an extent or metadata item with any list of references, as the Btrfs on-disk format documentation has it
-- (struct btrfs_extent_item): the head, which counts all uses, and behind it the references.
use Rattle.std.specs.Prelude.{ℕ, ◌+◌, List, ◌++◌}
use Rattle.std.specs.List.{flat_map, sum_by}
use Rattle.btr_keys.specs.btrfs_format.declared.size.TheConstants.{EXTENT_ITEM_SIZE}
use Rattle.btr_space_items.specs.ExtentHead.{extent_head_bytes}
use Rattle.btr_space_items.specs.InlineRef.{inline_ref_bytes, inline_ref_size, ref_uses}
use Rattle.btr_space_items.specs.declared.inline_ref.InlineRef.{InlineRef}

-- the references of an extent that a transaction made, and what it holds
abbrev pub extent_body_of : ℕ → ℕ → List InlineRef → List ℕ
extent_body_of generation flags refs =
    extent_head_bytes (record { refs = sum_by ref_uses refs; generation = generation; flags = flags }) ++ flat_map inline_ref_bytes refs

-- how many bytes it has
abbrev pub extent_body_size : List InlineRef → ℕ
extent_body_size refs = EXTENT_ITEM_SIZE + sum_by inline_ref_size refs
