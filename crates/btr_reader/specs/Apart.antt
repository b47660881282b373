-- Where the parts of a Btrfs volume don't lie.
use Rattle.std.specs.Prelude.{◌≡◌, ℕ, ◌+◌, ◌*◌, ◌/◌, ◌<◌, Bool, false, not, ◌&&◌, nat_eq, bytes_eq, List, length, map, Contains, Option, Some, None}
use Rattle.std.specs.List.{All}
use Rattle.std.specs.Option.{option_and_then}
use Rattle.btr_space_items.specs.btrfs_format.declared.object.TheConstants.{FS_TREE}
use Rattle.btr_reader_walk.specs.outside.History.{Image, block_at}
use Rattle.btr_reader_contents.specs.Extents.{extents_of, is_hole}
use Rattle.btr_reader_walk.specs.btr_keys.FileExtent.{ContentValue, FileExtentValue, Inline, Prealloc, Regular, file_extent_of}
use Rattle.btr_reader.specs.Chunks.{range_of}
use Rattle.btr_reader.specs.Image.{ImageFile, image_place, items_at, pointer_in, saved_location, saved_image, tree_number}
use Rattle.btr_reader.specs.Opening.{boot_chunks, boot_list, chunk_tree, root_tree, tree_of}
use Rattle.btr_reader.specs.Parts.{own_map, own_super}
use Rattle.btr_reader.specs.Roots.{root_item}
use Rattle.btr_reader.specs.Rows.{roots_on}
use Rattle.btr_super.specs.declared.superblock.Super.{Super}
use Rattle.btr_reader_walk.specs.Events.{TreeItem, nodes_in}
use Rattle.btr_reader_walk.specs.Map.{place}
use Rattle.btr_reader_walk.specs.Walks.{met}
use Rattle.btr_reader_walk.specs.declared.map.MapRange.{MapRange}
use Rattle.btr_reader_walk.specs.declared.tree.NodePointer.{NodePointer}
use Rattle.btr_reader_walk.specs.declared.tree.Tree.{Tree}
use Rattle.btr_reader_walk.specs.vol_block.Volume.{is_reserved}

-- Some blocks are given by a test. A place, in bytes, lies in none of them.
abbrev pub IsApart : (ℕ → Bool) → Option ℕ → Type 0
IsApart test None = Unit {0}
IsApart test (Some a) = test (a / 4096) ≡ false

-- nor does a block of a node
abbrev pub IsNodeApart : (ℕ → Bool) → List MapRange → ℕ → NodePointer → Type 0
IsNodeApart test ranges nodesize p = (k : ℕ) → k < nodesize / 4096 → IsApart test (place ranges (p.address + 4096 * k))

-- of a tree, as far as it can be walked
abbrev pub AreNodesApart : (ℕ → Bool) → Image → List MapRange → Tree → Type 0
AreNodesApart test image ranges tree = All (IsNodeApart test ranges tree.form.nodesize) (nodes_in (met image ranges tree))

-- nor a byte that a file has from the device by an extent, as far as its disk extent goes: an extent that goes further is refused where
-- rows are made of it
abbrev pub IsContentApart : (ℕ → Bool) → List MapRange → ContentValue → Type 0
IsContentApart test ranges (Inline bytes) = Unit {0}
IsContentApart test ranges (Regular r) =
    is_hole r ≡ false → (k : ℕ) → k < r.num_bytes → r.offset + k < r.disk_num_bytes → IsApart test (place ranges (r.disk_bytenr + r.offset + k))
IsContentApart test ranges (Prealloc r) = Unit {0}

abbrev pub AreExtentsApart : (ℕ → Bool) → List MapRange → List TreeItem → Type 0
AreExtentsApart test ranges items =
    (ino : ℕ) (i : TreeItem) (e : FileExtentValue) → Contains (extents_of items ino) i → file_extent_of i.body ≡ Some e → IsContentApart test ranges e.content

-- the root of a tree, as the root tree has it
abbrev pub root_of : Image → ℕ → Option NodePointer
root_of image number = pointer_in (root_item number (roots_on image (own_super image) (own_map image)))

-- the number of the tree of the saved image, by the entry in the file tree with this root
abbrev pub saved_tree : Image → NodePointer → Option ℕ
saved_tree image p = option_and_then tree_number (saved_location (items_at image (own_super image) (own_map image) FS_TREE p))

-- the addresses of the chunks in the superblock
abbrev pub boot_map : Super → List MapRange
boot_map s = map range_of (boot_list (boot_chunks s))

-- In none of the blocks lies the superblock, a node of the chunk tree, the root tree, the file tree or the saved image's tree, an extent
-- of a file in the file tree, or a block of the saved image.
pub record IsVolumeApart (test : ℕ → Bool) (image : Image) : Type 0 where
  pub superblock : test 16 ≡ false
  pub chunks : AreNodesApart test image (boot_map (own_super image)) (chunk_tree (own_super image))
  pub roots : AreNodesApart test image (own_map image) (root_tree (own_super image))
  pub files : (p : NodePointer) → root_of image FS_TREE ≡ Some p → AreNodesApart test image (own_map image) (tree_of (own_super image) FS_TREE p)
  pub extents : (p : NodePointer) → root_of image FS_TREE ≡ Some p → AreExtentsApart test (own_map image) (items_at image (own_super image) (own_map image) FS_TREE p)
  pub saved : (p : NodePointer) (number : ℕ) (q : NodePointer) → root_of image FS_TREE ≡ Some p → saved_tree image p ≡ Some number → root_of image number ≡ Some q → AreNodesApart test image (own_map image) (tree_of (own_super image) number q)
  pub blocks : (f : ImageFile) (b place : ℕ) → saved_image image (own_super image) (own_map image) ≡ Some f → image_place (own_map image) f b ≡ Some place → test place ≡ false

-- the two disks have the same in all other blocks
pub record IsSameOutside (test : ℕ → Bool) (image other : Image) : Type 0 where
  pub size : length other ≡ length image
  pub others : (b : ℕ) → test b ≡ false → block_at other b ≡ block_at image b

-- the block is another one on the other disk
abbrev pub differs : Image → Image → ℕ → Bool
differs image other b = not (bytes_eq (block_at other b) (block_at image b))

-- The block is reserved, and is not that of the superblock: it lies in the first MiB, in the 64 KiB from the place of a copy of the
-- superblock on, or behind the last multiple of 64 KiB.
abbrev pub is_spare : ℕ → ℕ → Bool
is_spare b blocks = not (nat_eq b 16) && is_reserved b blocks

abbrev pub is_spare_in : Image → ℕ → Bool
is_spare_in image b = is_spare b ((own_super image).total_bytes / 4096)

-- no part of the volume lies in such a block
abbrev pub IsSpareFree : Image → Type 0
IsSpareFree image = IsVolumeApart (is_spare_in image) image
