-- The superblock of a sample, as `struct reiserfs_super_block` of Linux's headers has it.
use Rattle.std.specs.Prelude.{ℕ, ◌+◌, List, [], ◌∷◌, length, replicate, codes}
use Rattle.std.specs.List.{concat}
use Rattle.byteorder.specs.Endian.{little_bytes}
use Rattle.reiser_make.specs.Inner.{needed, node_place, root_level}
use Rattle.reiser_make.specs.Leaf.{leaves}
use Rattle.reiser_make.specs.Places.{free_blocks, bitmap_blocks}
use Rattle.reiser_make.specs.Shape.{Shape, directory_count}
use Rattle.reiser_make.specs.declared.superblock.SuperFields.{SuperFields}

-- the first number that no object has, nor any behind it
abbrev pub first_unused_object : ℕ → ℕ
first_unused_object number = 3 + directory_count number + number

-- the block of the root node
abbrev pub root_block : Shape → ℕ
root_block s = node_place s (root_level (length (leaves s))) 0

-- a tree's height counts one more than the level of its root
abbrev pub tree_height : Shape → ℕ
tree_height s = root_level (length (leaves s)) + 1

-- what the superblock of a sample of so many blocks has
abbrev pub super_fields : Shape → ℕ → SuperFields
super_fields s blocks =
    record {
      blocks = blocks;
      free = free_blocks (needed s) blocks;
      root = root_block s;
      height = tree_height s;
      bitmaps = bitmap_blocks blocks;
      number = length s.names;
      unused_object = first_unused_object (length s.names);
    }

-- Fields in their order. The journal has 8192 blocks from block 18 on, with the limits that mkfs.reiserfs writes; the block
-- size is 4096, the state 1 for an unmounted volume, the hash of names number 3, r5, and the version 2. The identifier is
-- the sample's number. Behind the fields, at byte 204, stands the map of object numbers, of at most 972 of them: those from
-- the first on and below the second are in use.
unfoldable pub fields_bytes : SuperFields → List ℕ
fields_bytes f =
    concat
    (little_bytes 4 f.blocks
    ∷ little_bytes 4 f.free
    ∷ little_bytes 4 f.root
    ∷ little_bytes 4 18
    ∷ little_bytes 4 0
    ∷ little_bytes 4 8192
    ∷ little_bytes 4 1024
    ∷ little_bytes 4 0
    ∷ little_bytes 4 900
    ∷ little_bytes 4 30
    ∷ little_bytes 4 30
    ∷ little_bytes 2 4096
    ∷ little_bytes 2 972
    ∷ little_bytes 2 2
    ∷ little_bytes 2 1
    ∷ codes "ReIsEr2Fs"
    ∷ replicate 3 0
    ∷ little_bytes 4 3
    ∷ little_bytes 2 f.height
    ∷ little_bytes 2 f.bitmaps
    ∷ little_bytes 2 2
    ∷ replicate 10 0
    ∷ little_bytes 4 f.number
    ∷ replicate 116 0
    ∷ little_bytes 4 1
    ∷ little_bytes 4 f.unused_object
    ∷ replicate 3884 0
    ∷ [])

abbrev pub superblock_bytes : Shape → ℕ → List ℕ
superblock_bytes s blocks = fields_bytes (super_fields s blocks)
