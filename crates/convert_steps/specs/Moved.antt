-- The pieces that do not lie where they lay.
use Rattle.std.specs.Prelude.{◌≡◌, ◌≢◌, ℕ, ◌+◌, ◌^◌, ◌<◌, List, Option, false, length, slice_get, All, AllPairs, Any, Contains, Some, None}
use Rattle.indexmap.specs.IndexMap.{keys}
use Rattle.command_answers.specs.outside.History.{Image, block_at}
use Rattle.reiser_volume.specs.reiser_bitmap.Bits.{has}
use Rattle.reiser_volume.specs.reiser_volume_files.Bytes.{tail_block}
use Rattle.reiser_volume.specs.reiser_volume_names.Names.{ino_of_key}
use Rattle.reiser_volume.specs.reiser_volume_objects.Keys.{items_of}
use Rattle.reiser_volume.specs.reiser_volume_objects.declared.key.ObjectKey.{ObjectKey}
use Rattle.reiser_volume.specs.Made.{stat_at}
use Rattle.reiser_volume.specs.Opened.{IsOpened}
use Rattle.reiser_volume.specs.Volume.{IsAccepted, used_of, volume_items}
use Rattle.reiser_volume.specs.declared.volume.Volume.{Volume}
use Rattle.unit_plan.specs.declared.piece.Piece.{Piece}
use Rattle.std.specs.Prelude.{true}

-- the piece does not lie where it lay, and this is its block
pub record IsMovedTo (b : ℕ) (p : Piece) : Type 0 where
  pub moved : p.from ≢ Some p.place
  pub place : p.place ≡ b

-- the block of such a piece
abbrev pub IsMovedPlace : List Piece → ℕ → Type 0
IsMovedPlace pieces b = Any (IsMovedTo b) pieces

-- the block of a file with direct items that a piece is for
abbrev pub HasOwner : List ObjectKey → Piece → Type 0
HasOwner keys p = p.from ≡ None → (key : ObjectKey) × (k : ℕ) × Contains keys key × (p.owner ≡ Some (ino_of_key keys key, k)) × (k < 2 ^ 52)

-- The pieces of an accepted volume that was opened can be written. Those that move have one block each, to a place of its own
-- that the volume has and does not use; what they hold are used blocks, or blocks of files with direct items.
pub record CanMove (volume : Volume) (image : Image) (pieces : List Piece) : Type 0 where
  pub accepted : IsAccepted image
  pub opened : IsOpened volume image
  pub single : All (λ p. p.from ≢ Some p.place → p.count ≡ 1) pieces
  pub inside : (b : ℕ) → IsMovedPlace pieces b → b < length image
  pub unused : (b : ℕ) → IsMovedPlace pieces b → has (used_of image) b ≡ false
  pub apart : AllPairs (λ p q. p.from ≢ Some p.place → q.from ≢ Some q.place → p.place ≢ q.place) pieces
  pub sources : (p : Piece) (b j : ℕ) → Contains pieces p → p.from ≡ Some b → j < p.count → has (used_of image) (b + j) ≡ true
  pub owners : (p : Piece) → Contains pieces p → HasOwner (keys volume.named) p

-- what one piece holds: blocks of the old volume, or the bytes of direct items with zeros behind them
pub record HoldsPiece (volume : Volume) (image other : Image) (p : Piece) : Type 0 where
  pub blocks : (b j : ℕ) → p.from ≡ Some b → j < p.count → block_at other (p.place + j) ≡ block_at image (b + j)
  pub tail : (key : ObjectKey) (k : ℕ) → p.from ≡ None → Contains (keys volume.named) key
      → p.owner ≡ Some (ino_of_key (keys volume.named) key, k) → block_at other p.place ≡ tail_block (items_of key (volume_items image)) (stat_at (volume_items image) key).fields.size k

-- each piece holds what it is to hold
abbrev pub HoldMoved : Volume → Image → Image → List Piece → Type 0
HoldMoved volume image other pieces = (p : Piece) → Contains pieces p → HoldsPiece volume image other p

-- A piece can be written to a device of this many blocks.
pub record CanWrite (volume : Volume) (size : ℕ) (p : Piece) : Type 0 where
  pub single : p.from ≢ Some p.place → p.count ≡ 1
  pub inside : p.from ≢ Some p.place → p.place < size
  pub source : (b : ℕ) → p.from ≡ Some b → p.from ≢ Some p.place → b < size
  pub owner : HasOwner (keys volume.named) p

-- the key is found at this place
abbrev pub HasPlace : List ObjectKey → ObjectKey → Option ℕ → Type 0
HasPlace keys key place = (i : ℕ) × (place ≡ Some i) × (slice_get keys i ≡ Some key)
