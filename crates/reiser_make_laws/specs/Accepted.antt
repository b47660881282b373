-- Samples are volumes that keep every rule.
use Rattle.std.specs.Prelude.{ℕ, Bool}
use Rattle.reiser_volume.specs.outside.History.{Image}
use Rattle.reiser_make.specs.Shape.{shape}
use Rattle.reiser_volume.specs.reiser_volume_objects.Rules.{AreObjects}
use Rattle.reiser_volume.specs.reiser_volume_names.Names.{AreNames}
use Rattle.reiser_volume.specs.Volume.{volume_items, IsAccepted}
use Rattle.reiser_make_laws.specs.Laws.{FitsSample, made}

-- no file waits to be removed or cut short, and each named object is in order
abbrev pub SamplesHaveObjects : Type 0
SamplesHaveObjects = (number : ℕ) (old : Bool) (blocks : ℕ) (image : Image) → FitsSample number old blocks image → AreObjects (volume_items (made (shape number old) blocks image))

-- each rule of names is kept
abbrev pub SamplesHaveNames : Type 0
SamplesHaveNames = (number : ℕ) (old : Bool) (blocks : ℕ) (image : Image) → FitsSample number old blocks image → AreNames (volume_items (made (shape number old) blocks image))

-- so each rule of a volume is
abbrev pub SamplesAreAccepted : Type 0
SamplesAreAccepted = (number : ℕ) (old : Bool) (blocks : ℕ) (image : Image) → FitsSample number old blocks image → IsAccepted (made (shape number old) blocks image)
