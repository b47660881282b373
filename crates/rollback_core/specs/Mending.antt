-- What is to stand at the places of the copies of a Btrfs superblock, and what is written there.
use Rattle.std.specs.Prelude.{◌≡◌, ℕ, ◌+◌, ◌/◌, nat_lt, Bool, ◌&&◌, not, List, bytes_eq, codes, Option, Some, None, is_some, if◌then◌else◌}
use Rattle.btr_reader.specs.btrfs_format.declared.block.TheConstants.{SUPER_BLOCK, SUPER_MAGIC_OFFSET}
use Rattle.reiser_bitmap.specs.outside.Format.{format_in}
use Rattle.reiser_bitmap.specs.outside.History.{Image, block_at}
use Rattle.btr_reader.specs.btr_super.Super.{mirror_bytes, super_in}
use Rattle.reiser_bitmap.specs.Bits.{has}
use Rattle.reiser_volume.specs.Volume.{superblock, used_of}
use Rattle.reiser_bitmap.specs.vol_block.Format.{has_bytes_at}
use Rattle.reiser_bitmap.specs.vol_block.Volume.{zeros}
use Rattle.reiser_bitmap.specs.vol_block.declared.block.Block.{Block}
use Rattle.reiser_bitmap.specs.vol_block.declared.format.Format.{Format}
use Rattle.reiser_bitmap.specs.vol_block.declared.format.Format.TheVariants.{Reiser, Btrfs, Neither}

-- On a ReiserFS volume with these used blocks: zeros in place of a Btrfs superblock that lies in a block without use, where a copy has
-- its place.
unfoldable pub wiped : ℕ → List Bool → ℕ → List ℕ → List ℕ
wiped blocks used b bytes = if nat_lt (b + 1) blocks && (not (has used b) && has_bytes_at bytes SUPER_MAGIC_OFFSET (codes "_BHRfS_M")) then zeros else bytes

-- On a Btrfs volume of so many blocks: the copy of its superblock, with the address and the checksum of its place, which
-- never ends with the volume.
unfoldable pub copied : ℕ → List ℕ → ℕ → List ℕ → List ℕ
copied blocks superblock b bytes = if nat_lt (b + 1) blocks then mirror_bytes b superblock else bytes

-- the blocks of the volume that a Btrfs superblock is of
abbrev pub blocks_of : List ℕ → ℕ
blocks_of superblock = (super_in superblock).total_bytes / 4096

-- What is to stand in block b, that of a copy, where these bytes stand on a disk of this format.
abbrev pub mended_by : Format → Image → ℕ → List ℕ → List ℕ
mended_by Reiser image b bytes = wiped (superblock image).blocks (used_of image) b bytes
mended_by Btrfs image b bytes = copied (blocks_of (block_at image SUPER_BLOCK)) (block_at image SUPER_BLOCK) b bytes
mended_by Neither image b bytes = bytes

abbrev pub mended : Image → ℕ → List ℕ
mended image b = mended_by (format_in image) image b (block_at image b)

-- something else is to stand there
abbrev pub is_torn : Image → ℕ → Bool
is_torn image b = not (bytes_eq (mended image b) (block_at image b))

-- ---- what is written
-- the bytes that a block has behind a write, or without one
abbrev pub given : Option Block → List ℕ → List ℕ
given None bytes = bytes
given (Some block) bytes = block.bytes

-- A block is written exactly where other bytes are to stand than do, and they are those.
pub record Gives (bytes wanted : List ℕ) (found : Option Block) : Type 0 where
  pub bytes_are : given found bytes ≡ wanted
  pub needed : is_some found ≡ not (bytes_eq wanted bytes)
