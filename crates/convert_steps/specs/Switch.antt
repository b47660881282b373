-- What the switch to a Btrfs superblock leaves.
use Rattle.std.specs.Prelude.{◌≡◌, ◌≢◌, ◌⊎◌, ℕ, ◌+◌, ◌^◌, ◌<◌, nat_lt, if◌then◌else◌, Option, Some, None, List, [], ◌∷◌, length}
use Rattle.btr_super.specs.btrfs_format.declared.block.TheConstants.{FIRST_MIRROR, SECOND_MIRROR, SUPER_BLOCK}
use Rattle.command_answers.specs.outside.History.{Image, block_at}
use Rattle.btr_super.specs.Super.{mirror_bytes}
use Rattle.super_turn.specs.Marked.{IsHalf}

-- the blocks of the copies of a superblock, at 64 MiB and at 256 GiB, as the Btrfs on-disk format documentation has them
abbrev pub IsMirror : ℕ → Type 0
IsMirror b = (b ≡ FIRST_MIRROR) ⊎ (b ≡ SECOND_MIRROR)

-- such a block on a volume of so many blocks, which has no copy that would end with it
abbrev pub IsMirrorOf : ℕ → ℕ → Type 0
IsMirrorOf blocks b = IsMirror b × (b + 1 < blocks)

-- a block, where a volume of so many blocks has it and more behind it
abbrev pub on_volume : ℕ → ℕ → Option ℕ
on_volume blocks b = if nat_lt (b + 1) blocks then Some b else None

-- those of a volume of so many blocks
abbrev pub mirror_places : ℕ → List (Option ℕ)
mirror_places blocks = on_volume blocks FIRST_MIRROR ∷ on_volume blocks SECOND_MIRROR ∷ []

-- a copy of the superblock, on a volume of so many blocks
pub record IsCopy (superblock : List ℕ) (blocks b : ℕ) (bytes : List ℕ) : Type 0 where
  pub mirror : IsMirror b
  pub within : b + 1 < blocks
  pub bytes_are : bytes ≡ mirror_bytes b superblock

-- the copy at this place
abbrev pub IsCopyAt : ℕ → List ℕ → ℕ → ℕ → List ℕ → Type 0
IsCopyAt place superblock blocks b bytes = (b ≡ place) × IsCopy superblock blocks b bytes

-- what a switch writes: block 16, and the copies
abbrev pub IsSwitchPart : List ℕ → ℕ → ℕ → List ℕ → Type 0
IsSwitchPart superblock blocks b bytes = (b ≡ 16) ⊎ IsCopy superblock blocks b bytes

-- the new superblock, and all else as it was but for the copies' blocks on a volume of so many blocks
pub record IsSwitched (superblock : List ℕ) (blocks : ℕ) (old image : Image) : Type 0 where
  pub size : length image ≡ length old
  pub superblock_is : block_at image SUPER_BLOCK ≡ superblock
  pub others : (b : ℕ) → b ≢ 16 → ¬ IsMirrorOf blocks b → block_at image b ≡ block_at old b

-- Block 16 is half turned: its first sector is still that of the old superblock, with a mark that names block `place`. All else is as it was.
pub record IsHalfSwitched (place : ℕ) (old image : Image) : Type 0 where
  pub size : length image ≡ length old
  pub others : (b : ℕ) → b ≢ 16 → block_at image b ≡ block_at old b
  pub whole : length (block_at old SUPER_BLOCK) ≡ 4096
  pub small : place < 2 ^ 64
  pub half : IsHalf (block_at old SUPER_BLOCK) place (block_at image SUPER_BLOCK)

-- what a crash of a switch leaves: the disk as it was, half turned, or with the new superblock
abbrev pub IsLeftBySwitch : ℕ → List ℕ → ℕ → Image → Image → Type 0
IsLeftBySwitch place superblock blocks old image = (image ≡ old) ⊎ (IsHalfSwitched place old image ⊎ IsSwitched superblock blocks old image)

-- all copies stand
abbrev pub HasCopies : List ℕ → ℕ → Image → Type 0
HasCopies superblock blocks image = (b : ℕ) → IsMirror b → b + 1 < blocks → block_at image b ≡ mirror_bytes b superblock
