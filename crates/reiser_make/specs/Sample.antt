-- What the table of a sample holds.
use Rattle.std.specs.Prelude.{◌≡◌, ◌≤◌, ◌<◌, ℕ, ◌*◌, Bool, List, All, length, map, slice_index_or}
use Rattle.reiser_make.specs.Content.{IsSmallContent}
use Rattle.reiser_make.specs.Shape.{Shape, stored_before, stored_in}
use Rattle.reiser_make.specs.declared.sample_entry.SampleEntry.{SampleEntry}
use Rattle.reiser_make.specs.declared.sample.Named.{Named}

abbrev pub contents_of : List Named → List SampleEntry
contents_of names = map (λ named. named.content) names

abbrev pub shape_of : Bool → List Named → Shape
shape_of old names = record { old = old; names = contents_of names }

-- each name has the number of data blocks before its own
pub record HoldsSample (names : List Named) (stored : ℕ) : Type 0 where
  pub few : length names ≤ 4000
  pub small : All (λ named. IsSmallContent named.content) names
  pub firsts : (i : ℕ) (d : Named) → i < length names → (slice_index_or names i d).first ≡ stored_before (contents_of names) i
  pub whole : stored ≡ stored_in (contents_of names)
  pub most : stored ≤ 20 * 4000
