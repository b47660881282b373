-- What sample volumes are to whoever reads them.
use Rattle.std.specs.Prelude.{◌≡◌, ◌≤◌, ◌<◌, ℕ, ◌^◌, Bool, true, List, length, Contains}
use Rattle.reiser_volume.specs.outside.History.{Image, block_at}
use Rattle.reiser_volume.specs.reiser_bitmap.Bits.{has}
use Rattle.reiser_volume.specs.reiser_bitmap.System.{system_blocks}
use Rattle.reiser_make.specs.Inner.{needed}
use Rattle.reiser_make.specs.Layout.{Placed, laid_over, volume_blocks}
use Rattle.reiser_make.specs.Places.{is_taken}
use Rattle.reiser_make.specs.Shape.{Shape, shape}
use Rattle.reiser_volume.specs.reiser_super.Journal.{IsClean}
use Rattle.reiser_volume.specs.reiser_super.declared.superblock.Super.{Super}
use Rattle.reiser_volume.specs.Volume.{superblock, used_of}

-- a sample as a volume of so many blocks, over what was on the device
abbrev pub made : Shape → ℕ → Image → Image
made s blocks image = laid_over (volume_blocks s blocks) image

-- the sample of a number fits into a volume of so many blocks, and that on the device
pub record FitsSample (number : ℕ) (old : Bool) (blocks : ℕ) (image : Image) : Type 0 where
  pub number_low : number ≤ 4000
  pub needed_low : needed (shape number old) ≤ blocks
  pub blocks_low : blocks ≤ 2 ^ 29
  pub inside : blocks ≤ length image

-- the blocks that a volume keeps for itself
abbrev pub own_blocks : Super → List ℕ
own_blocks s = system_blocks s.blocks s.journal_first s.journal_size

-- superblock and journal are those of a clean volume
abbrev pub SamplesAreClean : Type 0
SamplesAreClean = (number : ℕ) (old : Bool) (blocks : ℕ) (image : Image) → FitsSample number old blocks image → IsClean (made (shape number old) blocks image)

-- the bitmap marks just the blocks that the sample uses
abbrev pub SamplesMarkUsed : Type 0
SamplesMarkUsed =
    (number : ℕ) (old : Bool) (blocks : ℕ) (image : Image) → FitsSample number old blocks image → (b : ℕ) → b < blocks
    → has (used_of (made (shape number old) blocks image)) b ≡ is_taken (needed (shape number old)) b

-- among them are the volume's own
abbrev pub SamplesMarkSystem : Type 0
SamplesMarkSystem =
    (number : ℕ) (old : Bool) (blocks : ℕ) (image : Image) → FitsSample number old blocks image
    → (b : ℕ) → Contains (own_blocks (superblock (made (shape number old) blocks image))) b → has (used_of (made (shape number old) blocks image)) b ≡ true

-- Each block of the layout is where the layout puts it: no two of them go to one place.
abbrev pub SamplesHoldTheirBlocks : Type 0
SamplesHoldTheirBlocks =
    (s : Shape) (blocks : ℕ) (image : Image) (p : Placed) → Contains (volume_blocks s blocks) p → p.0 < length image → block_at (made s blocks image) p.0 ≡ p.1
