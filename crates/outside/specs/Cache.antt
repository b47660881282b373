-- Blocks of a disk that are kept.
use Rattle.std.specs.Prelude.{◌≡◌, ℕ, nat_eq, List, Some}
use Rattle.std.specs.Map.{lookup}
use Rattle.vol_block.specs.declared.block.Block.{Block}
use Rattle.outside.specs.History.{Image, block_at}

-- each block that is kept is the disk's block of its number
abbrev pub AreOf : Image → List (ℕ × Block) → Type 0
AreOf image kept = (n : ℕ) (block : Block) → lookup (nat_eq n) kept ≡ Some block → block.bytes ≡ block_at image n
