-- Blocks of addresses, and the blocks of the device that hold them.
use Rattle.std.specs.Prelude.{◌≡◌, ℕ, ◌/◌, ◌%◌, List, Option, Some, None}
use Rattle.std.specs.List.{All}
use Rattle.btr_reader_walk.specs.outside.History.{Image, block_at}
use Rattle.btr_reader_walk.specs.vol_block.Volume.{zeros}
use Rattle.btr_reader_walk.specs.declared.map.MapRange.{MapRange}

-- A range begins and ends with a block, of addresses and of the device. Each chunk of a volume is such a range.
pub record IsInBlocks (r : MapRange) : Type 0 where
  pub logical : r.logical % 4096 ≡ 0
  pub length : r.length % 4096 ≡ 0
  pub physical : r.physical % 4096 ≡ 0

abbrev pub AreInBlocks : List MapRange → Type 0
AreInBlocks ranges = All IsInBlocks ranges

-- the block of a place, zeros where there is no place
abbrev pub block_or_zeros : Image → Option ℕ → List ℕ
block_or_zeros image None = zeros
block_or_zeros image (Some p) = block_at image (p / 4096)
