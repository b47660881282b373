-- The items of the tree of the saved image, and of the relocation tree.
use Rattle.std.specs.Prelude.{ℕ, ◌*◌, List, [], ◌∷◌, ◌++◌, codes, if◌then◌else◌, Bool, ◌+◌}
use Rattle.btr_item_list.specs.btrfs_format.declared.flag.TheConstants.{INODE_NODATASUM, INODE_READONLY}
use Rattle.btr_item_list.specs.btrfs_format.declared.object.TheConstants.{FIRST_FREE_OBJECTID}
use Rattle.btr_item_list.specs.vol_block.declared.mode.TheConstants.{DIRECTORY_MODE, IMAGE_MODE}
use Rattle.unit_plan.specs.btr_node.Leaf.{Item}
use Rattle.reiser_volume_objects.specs.fs_rows.declared.row.Kind.TheVariants.{File}
use Rattle.unit_plan.specs.declared.piece.Piece.{Piece}
use Rattle.file_items.specs.Extents.{pieces_of_volume, source_block, piece_bytes, extents_at}
use Rattle.file_items.specs.Names.{root_ref, entry_to, entry_items, Indexed, letters}
use Rattle.btr_item_list.specs.Inodes.{inode_made, inode_item, ref_item}

-- the name of the image
abbrev pub image_name : List ℕ
image_name = codes "image"

-- the entry of its root directory
abbrev pub image_entries : List Indexed
image_entries = (2, entry_to 257 File image_name) ∷ []

-- a root directory made at a time, of mode 040755, with these entries
abbrev pub root_directory_items : ℕ → List Indexed → List Item
root_directory_items now list = inode_item FIRST_FREE_OBJECTID (inode_made now DIRECTORY_MODE (2 * letters list) 0 0) ∷ root_ref ∷ entry_items FIRST_FREE_OBJECTID list

-- The relocation tree: an empty root directory.
unfoldable pub relocation_items : ℕ → List Item
relocation_items now = root_directory_items now []

-- The image is read-only; where data has no checksums, it says so too.
abbrev pub image_flags : Bool → ℕ
image_flags datasum = if datasum then INODE_READONLY else INODE_READONLY + INODE_NODATASUM

-- The tree of the saved image of a volume of so many blocks, up to its extents: a root directory with the file `image`,
-- inode 257, of so many bytes of extents.
unfoldable pub image_head : ℕ → ℕ → Bool → ℕ → List Item
image_head blocks nbytes datasum now =
    root_directory_items now image_entries
    ++ (inode_item 257 (inode_made now IMAGE_MODE (4096 * blocks) nbytes (image_flags datasum))
    ∷ (ref_item 257 FIRST_FREE_OBJECTID 2 image_name ∷ []))

-- The whole of it: an extent for each piece that holds blocks of the volume, from the block on that it holds.
unfoldable pub image_items : ℕ → List Piece → Bool → ℕ → List Item
image_items blocks pieces datasum now =
    image_head blocks (piece_bytes (pieces_of_volume pieces)) datasum now ++ extents_at 257 source_block (pieces_of_volume pieces)
