-- The mark of a ReiserFS superblock that is being turned. It stands from byte 128 on, where ReiserFS reads nothing.
use Rattle.std.specs.Prelude.{◌≡◌, ℕ, ◌==◌, nat_lt, Bool, ◌&&◌, not, List, ◌++◌, take, drop, codes}
use Rattle.std.specs.Str.{bytes_eq}
use Rattle.outside.specs.btrfs_format.declared.block.TheConstants.{SUPER_BLOCK, SUPER_MAGIC_OFFSET}
use Rattle.byteorder.specs.Endian.{little_bytes}
use Rattle.outside.specs.vol_block.Format.{has_bytes_at}
use Rattle.outside.specs.vol_block.Volume.{field}

-- the text of the mark, and the number of a block
abbrev pub mark : ℕ → List ℕ
mark place = codes "reiserconv turns" ++ little_bytes 8 place

-- the superblock with the mark, which names the block that holds it without
abbrev pub marked : List ℕ → ℕ → List ℕ
marked bytes place = take 128 bytes ++ (mark place ++ drop 24 (drop 128 bytes))

abbrev pub has_mark : List ℕ → Bool
has_mark bytes = has_bytes_at bytes 128 (codes "reiserconv turns")

-- the block that the mark names
abbrev pub marked_place : List ℕ → ℕ
marked_place bytes = field 8 bytes 144

-- the first sector of one block, and the others of another
abbrev pub with_first : List ℕ → List ℕ → List ℕ
with_first first rest = take 512 first ++ drop 512 rest

-- In the first sector these bytes are the old superblock with its mark. The other sectors may be those of any block.
abbrev pub IsHalf : List ℕ → ℕ → List ℕ → Type 0
IsHalf old place bytes = take 512 bytes ≡ take 512 (marked old place)

-- the two superblocks are the same in the first sector, but for the mark
abbrev pub is_half : List ℕ → List ℕ → Bool
is_half copy bytes = bytes_eq (take 128 bytes) (take 128 copy) && bytes_eq (take 360 (drop 152 bytes)) (take 360 (drop 152 copy))

-- the superblock is not that of Btrfs, and its mark names another block of so many
abbrev pub names_copy : List ℕ → ℕ → Bool
names_copy bytes blocks =
    not (has_bytes_at bytes SUPER_MAGIC_OFFSET (codes "_BHRfS_M")) && (has_mark bytes && (nat_lt (marked_place bytes) blocks && not (marked_place bytes == SUPER_BLOCK)))
