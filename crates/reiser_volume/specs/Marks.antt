-- Marks that are kept of files, by the places of the named objects.
use Rattle.std.specs.Prelude.{◌≡◌, ℕ, List, Option, Some, None, IfSome, slice_get, slice_index_or}
use Rattle.reiser_bitmap.specs.outside.History.{Image}
use Rattle.fs_rows.specs.Mark.{mark_of_bytes}
use Rattle.fs_rows.specs.declared.row.Kind.TheVariants.{File}
use Rattle.reiser_volume_objects.specs.declared.key.ObjectKey.{ObjectKey}
use Rattle.reiser_volume.specs.Made.{bytes_at, stat_at}
use Rattle.reiser_volume.specs.Volume.{volume_items}

-- A mark that is kept of an object is that of its bytes as a file. There may be none.
abbrev pub IsKeptMark : Image → ObjectKey → Option (List ℕ) → Type 0
IsKeptMark image key mark = let items = volume_items image in IfSome mark (λ m. m ≡ mark_of_bytes (bytes_at image items key (stat_at items key) File))

-- those that are kept of these objects, by their places
abbrev pub AreKeptMarks : Image → List ObjectKey → List (Option (List ℕ)) → Type 0
AreKeptMarks image keys marks = (i : ℕ) (key : ObjectKey) → slice_get keys i ≡ Some key → IsKeptMark image key (slice_index_or marks i None)
