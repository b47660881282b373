-- The rows of samples.
use Rattle.std.specs.Prelude.{ℕ, Bool}
use Rattle.reiser_volume.specs.outside.History.{Image}
use Rattle.reiser_make.specs.Rows.{sample_rows}
use Rattle.reiser_make.specs.Shape.{shape}
use Rattle.reiser_volume.specs.Volume.{IsAccepted, AreRowsOf}
use Rattle.reiser_make_laws.specs.Laws.{FitsSample, made}

-- what a listing of a sample's tree has is what the sample's description says
abbrev pub SamplesHaveTheirRows : Type 0
SamplesHaveTheirRows = (number : ℕ) (old : Bool) (blocks : ℕ) (image : Image) → FitsSample number old blocks image → AreRowsOf (made (shape number old) blocks image) (sample_rows number)

-- a volume that keeps every rule, with the rows of the sample of a number
pub record IsAsDescribed (number : ℕ) (image : Image) : Type 0 where
  pub accepted : IsAccepted image
  pub rows : AreRowsOf image (sample_rows number)

-- both versions
abbrev pub SamplesAreAsDescribed : Type 0
SamplesAreAsDescribed = (number : ℕ) (old : Bool) (blocks : ℕ) (image : Image) → FitsSample number old blocks image → IsAsDescribed number (made (shape number old) blocks image)
