-- What a crash leaves while block 16 is turned from one superblock to another, in steps each of which is on the disk before the next begins.
use Rattle.std.specs.Prelude.{◌≡◌, ◌≢◌, ◌⊎◌, ℕ, ◌^◌, ◌<◌, List, length}
use Rattle.outside.specs.btrfs_format.declared.block.TheConstants.{SUPER_BLOCK}
use Rattle.outside.specs.History.{Image, IsTorn, block_at}
use Rattle.super_turn.specs.Marked.{IsHalf}

-- block 16 holds these bytes, and nothing else differs
pub record StandsWith (bytes : List ℕ) (old image : Image) : Type 0 where
  pub size : length image ≡ length old
  pub others : (b : ℕ) → b ≢ 16 → block_at image b ≡ block_at old b
  pub superblock : block_at image SUPER_BLOCK ≡ bytes

-- One step: each sector of block 16 is as it was, or as it is to be.
pub record IsStep (from to : List ℕ) (old image : Image) : Type 0 where
  pub size : length image ≡ length old
  pub others : (b : ℕ) → b ≢ 16 → block_at image b ≡ block_at old b
  pub torn : IsTorn (λ value. value ≡ to) from (block_at image SUPER_BLOCK)

-- Block 16 is turned between a superblock of ReiserFS and one of Btrfs, in either direction: it is one of the two, or it has the first sector of
-- the former with a mark. Nothing else differs. That superblock has 4096 bytes, and the number in the mark is one of 64 bits.
pub record IsTurning (reiser : List ℕ) (place : ℕ) (btrfs : List ℕ) (old image : Image) : Type 0 where
  pub size : length image ≡ length old
  pub others : (b : ℕ) → b ≢ 16 → block_at image b ≡ block_at old b
  pub whole : length reiser ≡ 4096
  pub small : place < 2 ^ 64
  pub superblock : (block_at image SUPER_BLOCK ≡ reiser) ⊎ (IsHalf reiser place (block_at image SUPER_BLOCK) ⊎ (block_at image SUPER_BLOCK ≡ btrfs))
