-- Reserved blocks in which bytes lie.
use Rattle.std.specs.Prelude.{◌≡◌, ◌⊎◌, ◌≤◌, ◌<◌, ℕ, ◌+◌, ◌-◌, ◌/◌, List, AllPairs, Option, Some, None}
use Rattle.btr_reader.specs.Laws.{AreRangesApart}
use Rattle.btr_reader_walk.specs.declared.map.MapRange.{MapRange}

-- from the first block to before the end
pub record IsBetween (first end b : ℕ) : Type 0 where
  pub from : first ≤ b
  pub below : b < end

-- no block between has the property, or this one does
abbrev pub TellsBetween : (ℕ → Type 0) → ℕ → ℕ → Option ℕ → Type 0
TellsBetween P first end None = (b : ℕ) → IsBetween first end b → ¬ P b
TellsBetween P first end (Some b) = IsBetween first end b × P b

-- One of so many bytes from an address on lies in block b by the copy of this range that begins at a place.
pub record LieInCopy (r : MapRange) (start address count b : ℕ) : Type 0 where
  pub k : ℕ
  pub within : k < count
  pub from : r.logical ≤ address + k
  pub below : address + k < r.logical + r.length
  pub block : (start + (address + k - r.logical)) / 4096 ≡ b

-- the same of the second copy, if there is one
abbrev pub LieInSecond : MapRange → Option ℕ → ℕ → ℕ → ℕ → Type 0
LieInSecond r None address count b = ⊥
LieInSecond r (Some start) address count b = LieInCopy r start address count b

-- by either copy
abbrev pub LieInRange : MapRange → ℕ → ℕ → ℕ → Type 0
LieInRange r address count b = LieInCopy r r.physical address count b ⊎ LieInSecond r r.mirror address count b

-- no address lies in two ranges, as in the map of an opened volume
abbrev pub IsMapApart : List MapRange → Type 0
IsMapApart ranges = AllPairs AreRangesApart ranges
