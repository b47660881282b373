-- What the file tree of a converted volume is made from, and what its pieces hold.
use Rattle.std.specs.Prelude.{◌≡◌, ◌≤◌, ◌<◌, ◌⊎◌, ℕ, ◌+◌, ◌-◌, ◌*◌, false, List, AllPairs, Contains, Some, None}
use Rattle.std.specs.Option.{option_map_or}
use Rattle.indexmap.specs.IndexMap.{keys}
use Rattle.command_answers.specs.outside.History.{Image, block_at}
use Rattle.btr_tree.specs.btr_reader_walk.Map.{place}
use Rattle.btr_tree.specs.btr_reader_walk.declared.map.MapRange.{MapRange}
use Rattle.extent_pieces.specs.Found.{IsFound}
use Rattle.extent_pieces.specs.Laws.{HasPlan}
use Rattle.extent_pieces.specs.Placed.{WerePlaced}
use Rattle.extent_pieces.specs.declared.pieces.Pieces.{Pieces}
use Rattle.file_items.specs.Tree.{Source, source_of, ino_of, size_in, kind_in, inline_in}
use Rattle.reiser_volume.specs.fs_rows.declared.row.Kind.TheVariants.{File}
use Rattle.reiser_volume.specs.reiser_volume_files.Bytes.{tail_block}
use Rattle.reiser_volume.specs.reiser_volume_files.Runs.{block_from}
use Rattle.reiser_volume.specs.reiser_volume_files.declared.map.RunFrom.{RunFrom}
use Rattle.reiser_volume.specs.reiser_volume_files.declared.map.RunFrom.TheVariants.{Disk, Tail}
use Rattle.reiser_volume.specs.reiser_volume_objects.declared.key.ObjectKey.{ObjectKey}
use Rattle.reiser_volume.specs.reiser_volume_objects.Keys.{items_of}
use Rattle.reiser_volume.specs.Opened.{IsOpened, links_in}
use Rattle.reiser_volume.specs.Volume.{IsAccepted}
use Rattle.reiser_volume.specs.declared.volume.Volume.{Volume}
use Rattle.unit_plan.specs.convert_options.declared.options.Options.{Options}
use Rattle.unit_plan.specs.declared.piece.Piece.{Piece}
use Rattle.unit_plan.specs.declared.plan.Plan.{Plan}

-- An accepted volume that was opened, with enough space for a conversion with these options, and its pieces at their places
-- by a plan. What was counted is of the volume's named objects and links.
pub record HasPieces (volume : Volume) (image : Image) (o : Options) (plan : Plan) (pieces : List Piece) : Type 0 where
  pub accepted : IsAccepted image
  pub opened : IsOpened volume image
  pub found : Pieces
  pub counted : IsFound o.inline image (keys volume.named) (links_in volume) found
  pub plan_ : HasPlan image found o plan
  pub placed : WerePlaced found.kept plan.data_ found.items.items pieces

-- what the file tree is made from
abbrev pub made_from : Volume → Image → Options → List Piece → Source
made_from volume image o pieces = source_of volume pieces o.inline o.datasum image

-- a file whose data lies in extents of blocks
pub record HasExtents (s : Source) (key : ObjectKey) : Type 0 where
  pub named : Contains s.keys key
  pub file : kind_in s key ≡ File
  pub not_inline : inline_in s key ≡ false

-- where block k of a file has its bytes from
abbrev pub ComesFrom : Source → ObjectKey → ℕ → RunFrom → Type 0
ComesFrom s key k from = block_from (items_of key s.items) (size_in s key) k ≡ Some from

-- where the block j behind the first of a piece has them from
abbrev pub in_piece : Piece → ℕ → RunFrom
in_piece p j = option_map_or (λ b. Disk (b + j)) p.from Tail

-- Owned pieces hold what the files have, each block once: each block of a file that is not inline lies in a piece of it, at
-- its block of the file, and each block of an owned piece is such a block.
pub record HoldFiles (s : Source) : Type 0 where
  pub whole : (key : ObjectKey) (k : ℕ) (from : RunFrom) → HasExtents s key → ComesFrom s key k from
      → (p : Piece) × (first : ℕ) × Contains s.pieces p × (p.owner ≡ Some (ino_of s key, first)) × (first ≤ k) × (k < first + p.count) × (from ≡ in_piece p (k - first))
  pub each : (p : Piece) (i first : ℕ) → Contains s.pieces p → p.owner ≡ Some (i, first)
      → (key : ObjectKey) × HasExtents s key × (ino_of s key ≡ i) × ((j : ℕ) → j < p.count → ComesFrom s key (first + j) (in_piece p j))
  pub once : AllPairs (λ p q. (i k l : ℕ) → p.owner ≡ Some (i, k) → q.owner ≡ Some (i, l) → (k + p.count ≤ l) ⊎ (l + q.count ≤ k)) s.pieces

-- The blocks of a converted volume hold the pieces: a kept or copied one the blocks of the old volume, and a tail the bytes
-- of direct items and zeros behind them. Each address of a piece is its place.
pub record HoldPieces (s : Source) (image other : Image) (ranges : List MapRange) : Type 0 where
  pub blocks : (p : Piece) (b j : ℕ) → Contains s.pieces p → p.from ≡ Some b → j < p.count → block_at other (p.place + j) ≡ block_at image (b + j)
  pub tails : (p : Piece) (key : ObjectKey) (k : ℕ) → Contains s.pieces p → p.from ≡ None → Contains s.keys key → p.owner ≡ Some (ino_of s key, k)
      → block_at other p.place ≡ tail_block (items_of key s.items) (size_in s key) k
  pub mapped : (p : Piece) (a : ℕ) → Contains s.pieces p → 4096 * p.place ≤ a → a < 4096 * (p.place + p.count) → place ranges a ≡ Some a
