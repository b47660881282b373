-- What is to be written, and what was.
use Rattle.std.specs.Prelude.{◌≡◌, ◌⊎◌, ℕ, ◌<◌, true, List, Option, is_some, IsSomeAnd, if◌then◌else◌}
use Rattle.btr_reader.specs.btrfs_format.declared.block.TheConstants.{FIRST_MIRROR, SECOND_MIRROR}
use Rattle.reiser_bitmap.specs.outside.Format.{format_in}
use Rattle.reiser_bitmap.specs.outside.History.{Image, block_at}
use Rattle.reiser_bitmap.specs.vol_block.declared.block.Block.{Block}
use Rattle.rollback_core.specs.Mending.{Gives, given, mended}
use Rattle.rollback_core.specs.Recovered.{IsRecoverable, IsRewrite}
use Rattle.rollback_core.specs.declared.mending.Mending.{Mending}

-- The volume is in order, and this is what is to be written.
pub record IsPlanned (image : Image) (m : Mending) : Type 0 where
  pub can : IsRecoverable image
  pub format : m.format ≡ format_in image
  pub first : Gives (block_at image FIRST_MIRROR) (mended image FIRST_MIRROR) m.first
  pub second : Gives (block_at image SECOND_MIRROR) (mended image SECOND_MIRROR) m.second

-- a disk of so many blocks has each block that is to be written
pub record HasMendingRoom (size : ℕ) (m : Mending) : Type 0 where
  pub first : is_some m.first ≡ true → FIRST_MIRROR < size
  pub second : is_some m.second ≡ true → SECOND_MIRROR < size

-- this block is written, if there is one for it
abbrev pub IsGivenAt : ℕ → Option Block → ℕ → List ℕ → Type 0
IsGivenAt place found b bytes = (b ≡ place) × IsSomeAnd found (λ block. bytes ≡ block.bytes)

abbrev pub IsGiven : Mending → ℕ → List ℕ → Type 0
IsGiven m b bytes = IsGivenAt FIRST_MIRROR m.first b bytes ⊎ IsGivenAt SECOND_MIRROR m.second b bytes

-- so is block 16, as it stands
abbrev pub IsGivenOrRewrite : Image → Mending → ℕ → List ℕ → Type 0
IsGivenOrRewrite image m b bytes = IsRewrite image b bytes ⊎ IsGiven m b bytes

-- it stands
pub record MendingStands (m : Mending) (old new : Image) : Type 0 where
  pub first : block_at new FIRST_MIRROR ≡ given m.first (block_at old FIRST_MIRROR)
  pub second : block_at new SECOND_MIRROR ≡ given m.second (block_at old SECOND_MIRROR)

-- how many blocks are written
abbrev pub writes_of : Option Block → ℕ
writes_of found = if is_some found then 1 else 0
