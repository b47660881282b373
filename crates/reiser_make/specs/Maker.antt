-- What the maker answers, and what it leaves.
use Rattle.std.specs.Prelude.{◌≡◌, ◌≤◌, ◌<◌, ℕ}
use Rattle.fs_rows.specs.outside.History.{History}
use Rattle.reiser_make.specs.Inner.{needed}
use Rattle.reiser_make.specs.Shape.{Shape}
use Rattle.reiser_make.specs.declared.bitmap.Usage.{Usage}
use Rattle.reiser_make.specs.declared.maker.MakeAnswer.{MakeAnswer}
use Rattle.reiser_make.specs.declared.maker.MakeAnswer.TheVariants.{Full, Fault, Memory}

-- Full comes only where the volume has fewer blocks than the sample needs, with these two numbers, and a fault only where
-- it has enough.
abbrev pub IsRight : ℕ → ℕ → MakeAnswer → Type 0
IsRight needed blocks (Full told of) = (told ≡ needed) × (of ≡ blocks) × (blocks < needed)
IsRight needed blocks Fault = needed ≤ blocks
IsRight needed blocks Memory = Unit {0}

-- without a fault nothing was written
abbrev pub KeepsHistory : MakeAnswer → History → History → Type 0
KeepsHistory (Full told of) old new = new ≡ old
KeepsHistory Fault old new = Unit {0}
KeepsHistory Memory old new = new ≡ old

-- what of a volume of so many blocks a sample uses
abbrev pub usage_of : Shape → ℕ → Usage
usage_of s blocks = record { needed = needed s; blocks = blocks }
