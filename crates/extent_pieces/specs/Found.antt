-- What the pieces of a volume hold.
use Rattle.std.specs.Prelude.{◌≡◌, Bool, List, length}
use Rattle.reiser_bitmap.specs.outside.History.{Image}
use Rattle.reiser_volume_objects.specs.declared.key.ObjectKey.{ObjectKey}
use Rattle.reiser_volume_objects.specs.declared.naming.Naming.{Naming}
use Rattle.reiser_volume.specs.Volume.{used_of, volume_items}
use Rattle.extent_pieces.specs.declared.pieces.Pieces.{Pieces}
use Rattle.extent_pieces.specs.Counts.{counts}
use Rattle.extent_pieces.specs.Files.{FileAt, files, symlinks, owner, tails}
use Rattle.extent_pieces.specs.Pieces.{kept_pieces, pieces}
use Rattle.unit_plan.specs.declared.counts.Counts.{Counts}

-- the files of a volume with these named objects
abbrev pub files_of : Image → List ObjectKey → List FileAt
files_of image keys = files (volume_items image) keys

-- the counts of a volume with these named objects and links
abbrev pub counts_of : Bool → Image → List ObjectKey → List Naming → Counts
counts_of inline image keys links = counts inline (used_of image) (length keys) links (files_of image keys) (symlinks (volume_items image) keys)

-- the pieces of a volume with these named objects and links, before they have places
pub record IsFound (inline : Bool) (image : Image) (keys : List ObjectKey) (links : List Naming) (found : Pieces) : Type 0 where
  pub pieces_are : found.items.items ≡ pieces (used_of image) (owner (files_of image keys)) (tails inline (files_of image keys))
  pub kept_are : found.kept ≡ length (kept_pieces (used_of image) (owner (files_of image keys)))
  pub counts_are : found.counts ≡ counts_of inline image keys links
