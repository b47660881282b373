-- Bodies of block groups' items in the free space tree (struct btrfs_free_space_info of Linux).
use Rattle.std.specs.Prelude.{ℕ, List, Option}
use Rattle.btr_node.specs.btr_keys.Layout.{Layout, made_by, ◌▸◌, u32, whole, spelling}
use Rattle.free_space.specs.declared.info.FreeInfo.{FreeInfo}

abbrev pub make_free_info : ℕ → ℕ → FreeInfo
make_free_info count flags = record { count = count; flags = flags }

unfoldable pub free_info_layout : Layout FreeInfo FreeInfo
free_info_layout =
    made_by make_free_info
    ▸ u32 (λ v. v.count)
    ▸ u32 (λ v. v.flags)

-- the value that is the whole body
abbrev pub free_info_of : List ℕ → Option FreeInfo
free_info_of body = whole 8 free_info_layout body

-- the 8 bytes of a value
abbrev pub free_info_bytes : FreeInfo → List ℕ
free_info_bytes value = spelling free_info_layout value
