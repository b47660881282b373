-- The streams of a volume's items, over its blocks.
use Rattle.std.specs.Prelude.{◌≡◌, ℕ, ◌+◌, ◌≤◌, ◌<◌, max, true, false, List, [], ◌∷◌, length, Contains}
use Rattle.btr_tree.specs.outside.History.{Image}
use Rattle.file_items.specs.Stream.{ahead, FitsStream, FitsBlocks}
use Rattle.file_items.specs.declared.items.Items.{Items}
use Rattle.reiser_volume.specs.reiser_bitmap.Bits.{has}
use Rattle.reiser_volume.specs.Opened.{IsOpened}
use Rattle.reiser_volume.specs.Volume.{IsAccepted, superblock}
use Rattle.reiser_volume.specs.declared.volume.Volume.{Volume}
use Rattle.space_items.specs.Stream.{FitsSums, sums_ahead}
use Rattle.space_items.specs.declared.sum_stream.SumStream.{SumStream}
use Rattle.btr_tree_writer.specs.Source.{SameWhere}
use Rattle.unit_plan.specs.Pieces.{ArePlaced}
use Rattle.unit_plan.specs.declared.piece.Piece.{Piece}

-- an accepted volume that was opened, whose blocks are all there, and pieces that have their places on it
pub record HasPlacedPieces (volume : Volume) (pieces : List Piece) (image : Image) : Type 0 where
  pub accepted : IsAccepted image
  pub opened : IsOpened volume image
  pub room : (superblock image).blocks ≤ length image
  pub placed : ArePlaced (superblock image).blocks pieces

-- they are made from the used blocks
abbrev pub IsUsedBlock : Volume → ℕ → Type 0
IsUsedBlock volume b = has volume.bitmap b ≡ true

-- The items of a file tree are read off the accepted volume that was opened, whose blocks are all there.
pub record ReadsVolume (items : Items) (volume : Volume) (pieces : List Piece) (image : Image) : Type 0 where
  pub accepted : IsAccepted image
  pub opened : IsOpened volume image
  pub room : (superblock image).blocks ≤ length image
  pub placed : ArePlaced (superblock image).blocks pieces
  pub blocks : FitsBlocks items volume image

-- They are, and those that are still to come stay, whatever is written to blocks without use.
pub record FitsFiles (items : Items) (volume : Volume) (pieces : List Piece) (image : Image) : Type 0 where
  pub here : ReadsVolume items volume pieces image
  pub stay : (other : Image) → SameWhere (IsUsedBlock volume) image other → ReadsVolume items volume pieces other × (ahead items volume pieces other ≡ ahead items volume pieces image)

pub record IsLiveFiles (items : Items) (volume : Volume) (pieces : List Piece) : Type 0 where
  pub unspent : items.spent ≡ false
  pub fits : FitsStream items volume pieces

-- a block of one of the pieces
abbrev pub IsInPieces : List Piece → ℕ → Type 0
IsInPieces pieces b = (p : Piece) × Contains pieces p × (p.place ≤ b) × (b < p.place + p.count)

-- where the last of them ends
abbrev pub pieces_end : List Piece → ℕ
pieces_end [] = 0
pieces_end (p ∷ pieces) = max (p.place + p.count) (pieces_end pieces)

-- The checksums are those of the blocks, whatever is written elsewhere.
pub record FitsSumBlocks (sums : SumStream) (pieces : List Piece) (image : Image) : Type 0 where
  pub stay : (other : Image) → SameWhere (IsInPieces pieces) image other → sums_ahead sums pieces other ≡ sums_ahead sums pieces image

pub record IsLiveSums (sums : SumStream) (pieces : List Piece) : Type 0 where
  pub unspent : sums.spent ≡ false
  pub fits : FitsSums sums pieces
