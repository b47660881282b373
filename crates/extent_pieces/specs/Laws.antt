-- What pieces keep.
use Rattle.std.specs.Prelude.{◌≡◌, ◌≢◌, ◌≤◌, ◌<◌, ℕ, ◌+◌, ◌-◌, ◌/◌, Bool, true, false, List, length, All, AllPairs, Any, Some}
use Rattle.std.specs.List.Sorted.{IsStrictlySortedBy}
use Rattle.reiser_bitmap.specs.outside.History.{Image}
use Rattle.reiser_bitmap.specs.Bits.{has}
use Rattle.reiser_volume_objects.specs.declared.key.ObjectKey.{ObjectKey}
use Rattle.reiser_volume_objects.specs.declared.naming.Naming.{Naming}
use Rattle.reiser_volume.specs.reiser_volume_names.Links.{AreLinks, AreNamedKeys, object_cmp}
use Rattle.reiser_volume.specs.reiser_volume_names.Names.{ino_of_key}
use Rattle.reiser_volume.specs.Owners.{Owns}
use Rattle.reiser_volume.specs.Volume.{used_of, volume_items, IsAccepted}
use Rattle.unit_plan.specs.convert_options.declared.options.Options.{Options}
use Rattle.unit_plan.specs.declared.piece.Piece.{Piece}
use Rattle.unit_plan.specs.declared.plan.Plan.{Plan}
use Rattle.unit_plan.specs.Choice.{HasEnoughSpace, IsPlan, is_among, is_data}
use Rattle.unit_plan.specs.Needed.{AreSmall, need}
use Rattle.unit_plan.specs.Pieces.{ArePlaced}
use Rattle.extent_pieces.specs.declared.pieces.Pieces.{Pieces}
use Rattle.extent_pieces.specs.declared.tail.Tail.{Tail}
use Rattle.extent_pieces.specs.Files.{owner}
use Rattle.extent_pieces.specs.Found.{IsFound, counts_of, files_of}
use Rattle.extent_pieces.specs.Pieces.{Owners, advanced, is_joined, kept_pieces, pieces}
use Rattle.extent_pieces.specs.Placed.{WerePlaced, FitsPlan, IsCounted}

-- ---- kept pieces, whatever the owners are

-- a block that the piece keeps
abbrev pub IsInPiece : Piece → ℕ → Type 0
IsInPiece p b = (p.place ≤ b) × (b < p.place + p.count)

-- A kept piece: used blocks that are not reserved, between two multiples of 32768, which have no owner, or one file whose
-- blocks go on. It lies where it lay, and is as long as may be.
pub record IsKeptPiece (used : List Bool) (owner : Owners) (p : Piece) : Type 0 where
  pub some : 0 < p.count
  pub stays : p.from ≡ Some p.place
  pub is_owned : p.owner ≡ owner p.place
  pub data_ : (b : ℕ) → IsInPiece p b → is_data used b ≡ true
  pub uncut : (b : ℕ) → IsInPiece p b → b / 32768 ≡ p.place / 32768
  pub owners : (b : ℕ) → IsInPiece p b → owner b ≡ advanced p.owner (b - p.place)
  pub before : (b : ℕ) → b + 1 ≡ p.place → is_data used b ≡ true → is_joined used owner b p.place ≡ false
  pub behind : is_joined used owner p.place (p.place + p.count) ≡ false

-- Kept pieces ascend, none overlaps another, and each used block that is not reserved lies in one.
pub record AreKeptPieces (used : List Bool) (owner : Owners) (ps : List Piece) : Type 0 where
  pub each : All (IsKeptPiece used owner) ps
  pub ascending : AllPairs (λ p q. p.place + p.count ≤ q.place) ps
  pub whole : (b : ℕ) → is_data used b ≡ true → Any (λ p. IsInPiece p b) ps

abbrev pub KeptPiecesAreMaximal : Type 0
KeptPiecesAreMaximal = (used : List Bool) (owner : Owners) → AreKeptPieces used owner (kept_pieces used owner)

-- ---- all pieces

-- the piece holds this block of the volume
abbrev pub HoldsBlock : ℕ → Piece → Type 0
HoldsBlock b p = (first : ℕ) × (p.from ≡ Some first) × (first ≤ b) × (b < first + p.count)

-- each block that the piece holds is used, and belongs to the piece's owner, or to none
pub record HoldsUsed (used : List Bool) (owner : Owners) (p : Piece) : Type 0 where
  pub used_ : (b : ℕ) → HoldsBlock b p → has used b ≡ true
  pub owners : (first b : ℕ) → p.from ≡ Some first → first ≤ b → b < first + p.count → owner b ≡ advanced p.owner (b - first)

-- The pieces hold each used block once, and no other block.
pub record CoverUsed (used : List Bool) (owner : Owners) (ps : List Piece) : Type 0 where
  pub each : All (HoldsUsed used owner) ps
  pub whole : (b : ℕ) → has used b ≡ true → Any (HoldsBlock b) ps
  pub once : AllPairs (λ p q. (b : ℕ) → HoldsBlock b p → HoldsBlock b q → ⊥) ps

abbrev pub PiecesCoverUsed : Type 0
PiecesCoverUsed = (used : List Bool) (owner : Owners) (tails : List Tail) → CoverUsed used owner (pieces used owner tails)

-- ---- the pieces of a volume

-- the keys of the named objects of an accepted volume, in their order
pub record AreSortedKeys (image : Image) (keys : List ObjectKey) : Type 0 where
  pub accepted : IsAccepted image
  pub are_keys : AreNamedKeys (volume_items image) keys
  pub ascend : IsStrictlySortedBy object_cmp keys

-- The owner of a block is the inode of the one named file whose items name the block, with the file block.
pub record OwnersOf (image : Image) (keys : List ObjectKey) : Type 0 where
  pub owned : (key : ObjectKey) (k block : ℕ) → Owns image key k block → owner (files_of image keys) block ≡ Some (ino_of_key keys key, k)
  pub owns : (block ino k : ℕ) → owner (files_of image keys) block ≡ Some (ino, k) → (key : ObjectKey) × (ino ≡ ino_of_key keys key) × Owns image key k block

abbrev pub OwnersAreNamed : Type 0
OwnersAreNamed = (image : Image) (keys : List ObjectKey) → AreSortedKeys image keys → OwnersOf image keys

-- what is counted of an accepted volume is so small that the space can be counted
abbrev pub CountsAreSmall : Type 0
CountsAreSmall =
    (inline : Bool) (image : Image) (keys : List ObjectKey) (visible links : List Naming) → IsAccepted image → AreNamedKeys (volume_items image) keys
    → AreLinks (volume_items image) visible links → AreSmall (counts_of inline image keys links)

-- the pieces of a volume that has the space, with a plan for it
pub record HasPlan (image : Image) (found : Pieces) (o : Options) (plan : Plan) : Type 0 where
  pub keys : List ObjectKey
  pub sorted : AreSortedKeys image keys
  pub links : List Naming
  pub found_ : IsFound o.inline image keys links found
  pub enough : HasEnoughSpace (used_of image) (need found.counts o)
  pub plan_ : IsPlan (used_of image) (need found.counts o) plan

-- its data units have room for copies and tails
abbrev pub PlansHaveRoom : Type 0
PlansHaveRoom = (image : Image) (found : Pieces) (o : Options) (plan : Plan) → HasPlan image found o plan → FitsPlan found plan.data_

-- so have those of a plan for what was counted, whatever the source gave
abbrev pub CountedPiecesFit : Type 0
CountedPiecesFit =
    (used : List Bool) (found : Pieces) (o : Options) (plan : Plan) → IsCounted used found → AreSmall found.counts → HasEnoughSpace used (need found.counts o)
    → IsPlan used (need found.counts o) plan → FitsPlan found plan.data_

-- a piece that does not lie where it lay has one block, in a data unit
abbrev pub LiesInUnit : List ℕ → Piece → Type 0
LiesInUnit units p = p.from ≢ Some p.place → (p.count ≡ 1) × (is_among units (p.place / 256) ≡ true)

-- Once they have their places, no two pieces overlap, all lie on the volume, and copies and tails lie in the data units.
pub record LieWell (used : List Bool) (units : List ℕ) (placed : List Piece) : Type 0 where
  pub apart : ArePlaced (length used) placed
  pub moved : All (LiesInUnit units) placed

abbrev pub PlacesAreApart : Type 0
PlacesAreApart =
    (image : Image) (found : Pieces) (o : Options) (plan : Plan) (placed : List Piece) → HasPlan image found o plan
    → WerePlaced found.kept plan.data_ found.items.items placed → LieWell (used_of image) plan.data_ placed
