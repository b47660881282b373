-- What a marker holds.
use Rattle.std.specs.Prelude.{ℕ, List}
use Rattle.std.specs.List.{flat_map}
use Rattle.sha2.specs.Hashers.{Holds256}
use Rattle.fs_rows.specs.Mark.{marked_block}
use Rattle.fs_rows.specs.declared.mark.Marker.{Marker}

-- these blocks, each with its index, were added to the marker
unfoldable pub Marks : Marker → List (ℕ × List ℕ) → Type 0
Marks m blocks = Holds256 m.hasher (flat_map marked_block blocks)
