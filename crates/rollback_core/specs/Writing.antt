-- What is written back, and what that leaves.
use Rattle.std.specs.Prelude.{◌≡◌, ◌≢◌, ◌⊎◌, ℕ, ◌^◌, ◌<◌, true, All, AllPairs, Any, List, length}
use Rattle.btr_reader.specs.btrfs_format.declared.block.TheConstants.{FIRST_MIRROR, SECOND_MIRROR, SUPER_BLOCK}
use Rattle.reiser_bitmap.specs.outside.History.{Image, block_at}
use Rattle.reiser_bitmap.specs.vol_block.Volume.{zeros}
use Rattle.super_turn.specs.Marked.{IsHalf}
use Rattle.rollback_core.specs.declared.way.Saved.{Saved}
use Rattle.rollback_core.specs.declared.way.WayBack.{WayBack}

-- ---- what is written

-- one of the saved blocks goes to block b
abbrev pub IsSavedPlace : List Saved → ℕ → Type 0
IsSavedPlace saved b = Any (λ s. b ≡ s.at) saved

-- block b is to become zeros
abbrev pub IsWiped : WayBack → ℕ → Type 0
IsWiped way b = ((b ≡ FIRST_MIRROR) × (way.first ≡ true)) ⊎ ((b ≡ SECOND_MIRROR) × (way.second ≡ true))

-- and zeros go there
abbrev pub IsWiping : WayBack → ℕ → List ℕ → Type 0
IsWiping way b bytes = IsWiped way b × (bytes ≡ zeros)

-- all that is written
abbrev pub IsWayBackPart : WayBack → ℕ → List ℕ → Type 0
IsWayBackPart way b bytes = IsSavedPlace way.reserved.items b ⊎ ((b ≡ 16) ⊎ IsWiping way b bytes)

-- ---- what holds of it

-- a disk of so many blocks has each of them
pub record HasRoom (size : ℕ) (way : WayBack) : Type 0 where
  pub superblock : 16 < size
  pub reserved : All (λ s. s.at < size) way.reserved.items
  pub first : way.first ≡ true → FIRST_MIRROR < size
  pub second : way.second ≡ true → SECOND_MIRROR < size

-- no two blocks go to one place
abbrev pub GoApart : List Saved → Type 0
GoApart saved = AllPairs (λ p q. p.at ≢ q.at) saved

-- No block is written twice.
pub record AreWritesApart (way : WayBack) : Type 0 where
  pub reserved : GoApart way.reserved.items
  pub superblock : ¬ IsSavedPlace way.reserved.items 16
  pub wiped : (b : ℕ) → IsWiped way b → ¬ IsSavedPlace way.reserved.items b

-- ---- what stands

-- Before block 16 is written: nothing differs but the places of the saved blocks.
pub record IsUnturned (way : WayBack) (old other : Image) : Type 0 where
  pub size : length other ≡ length old
  pub others : (b : ℕ) → ¬ IsSavedPlace way.reserved.items b → block_at other b ≡ block_at old b

-- each of the saved blocks stands in its place
abbrev pub AreWrittenBack : List Saved → Image → Type 0
AreWrittenBack saved other = All (λ s. block_at other s.at ≡ s.block.bytes) saved

-- The saved blocks stand, and block 16 is half turned: its first sector is that of the old superblock, with a mark.
pub record IsHalfway (way : WayBack) (old other : Image) : Type 0 where
  pub size : length other ≡ length old
  pub whole : length way.superblock.bytes ≡ 4096
  pub small : way.copy < 2 ^ 64
  pub half : IsHalf way.superblock.bytes way.copy (block_at other SUPER_BLOCK)
  pub written : AreWrittenBack way.reserved.items other
  pub others : (b : ℕ) → b ≢ 16 → ¬ IsSavedPlace way.reserved.items b → block_at other b ≡ block_at old b

-- Block 16 and the saved blocks stand. The blocks that are to become zeros may hold anything.
pub record IsTurned (way : WayBack) (old other : Image) : Type 0 where
  pub size : length other ≡ length old
  pub superblock : block_at other SUPER_BLOCK ≡ way.superblock.bytes
  pub written : AreWrittenBack way.reserved.items other
  pub others : (b : ℕ) → b ≢ 16 → ¬ IsSavedPlace way.reserved.items b → (block_at other b ≡ block_at old b) ⊎ IsWiped way b

-- they are zeros
abbrev pub AreWiped : WayBack → Image → Type 0
AreWiped way other = (b : ℕ) → IsWiped way b → block_at other b ≡ zeros
