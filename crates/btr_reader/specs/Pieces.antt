-- The saved image as a list of pieces.
use Rattle.std.specs.Prelude.{◌≡◌, ℕ, ◌+◌, ◌-◌, ◌*◌, ◌/◌, ◌≤◌, All, nat_lt, nat_le, Bool, ◌&&◌, if◌then◌else◌, List, [], ◌∷◌, Option, Some, None, Contains}
use Rattle.std.specs.List.{list_any}
use Rattle.std.specs.Option.{option_map}
use Rattle.btr_reader_walk.specs.btr_keys.FileExtent.{ContentValue, Inline, Regular, Prealloc, file_extent_of}
use Rattle.btr_reader_walk.specs.btr_keys.declared.file_extent.DiskRange.{DiskRange}
use Rattle.btr_reader_walk.specs.declared.map.MapRange.{MapRange}
use Rattle.btr_reader_walk.specs.Map.{place}
use Rattle.btr_reader_walk.specs.Events.{TreeItem}
use Rattle.btr_reader_walk.specs.refusals.declared.refusal.BtrRefusal.{BtrRefusal}
use Rattle.btr_reader.specs.declared.mapped_extent.MappedExtent.{MappedExtent}
use Rattle.btr_reader.specs.declared.image_map.ImageMap.{ImageMap}
use Rattle.btr_reader.specs.Ascending.{AscendApart}
use Rattle.btr_reader.specs.declared.gathered.Gathered.{Gathered}
use Rattle.btr_reader_contents.specs.Extents.{is_hole, extents_end, extents_covered, extents_refusals}
use Rattle.btr_reader.specs.Image.{ImageFile, is_inline, file_block, image_place}

-- block b of the file is in the piece
abbrev pub holds_block : MappedExtent → ℕ → Bool
holds_block p b = nat_le p.first b && nat_lt (b - p.first) p.count

-- the block of the device that has it
abbrev pub block_in : List MapRange → MappedExtent → ℕ → Option ℕ
block_in ranges p b = if holds_block p b then option_map (λ a. a / 4096) (place ranges (p.disk + p.offset + 4096 * (b - p.first))) else None

-- the first one of two
abbrev pub or_else : Option ℕ → Option ℕ → Option ℕ
or_else None second = second
or_else (Some n) second = Some n

abbrev pub pieces_place : List MapRange → List MappedExtent → ℕ → Option ℕ
pieces_place ranges [] b = None
pieces_place ranges (p ∷ ps) b = or_else (block_in ranges p b) (pieces_place ranges ps b)

-- the pieces that an extent from byte `offset` of the file on adds: one, unless it is a hole
abbrev pub range_piece : ℕ → DiskRange → MappedExtent
range_piece offset r = record { first = offset / 4096; count = r.num_bytes / 4096; disk = r.disk_bytenr; offset = r.offset }

abbrev pub range_pieces : ℕ → DiskRange → List MappedExtent
range_pieces offset r = if is_hole r then [] else range_piece offset r ∷ []

abbrev pub pieces_of : ℕ → ContentValue → List MappedExtent
pieces_of offset (Inline bytes) = []
pieces_of offset (Regular r) = range_pieces offset r
pieces_of offset (Prealloc r) = []

-- one of the extents is inline
abbrev pub any_inline : List TreeItem → Bool
any_inline extents = list_any (λ e. is_inline (file_extent_of e.body)) extents

-- what is gathered is in order: the pieces ascend, and each ends at the end of what was reached, or before
pub record AreGatheredInOrder (g : Gathered) : Type 0 where
  pub apart : AscendApart g.pieces.items
  pub reached : All (λ p. 4096 * (p.first + p.count) ≤ g.reach.end) g.pieces.items

-- what was gathered of these extents
pub record GathersExtents (ranges : List MapRange) (extents : List TreeItem) (g : Gathered) : Type 0 where
  pub sound : extents_refusals ranges 0 0 extents ≡ []
  pub end : g.reach.end ≡ extents_end 0 extents
  pub covered : g.reach.covered ≡ extents_covered 0 extents
  pub inline : g.inline ≡ any_inline extents
  pub blocks : (b : ℕ) → pieces_place ranges g.pieces.items b ≡ file_block ranges extents b

-- what is noted of these extents: what is wrong with one of them, or what was gathered of all
abbrev pub TellsExtents : List MapRange → List TreeItem → Option BtrRefusal → Gathered → Type 0
TellsExtents ranges extents None g = GathersExtents ranges extents g
TellsExtents ranges extents (Some r) g = Contains (extents_refusals ranges 0 0 extents) r

-- the place of block b by a map; none past its length
abbrev pub map_place : ImageMap → ℕ → Option ℕ
map_place m b = if nat_lt b m.blocks then pieces_place m.ranges.items m.pieces.items b else None

-- the map is that of a file
pub record IsMapOf (ranges : List MapRange) (m : ImageMap) (f : ImageFile) : Type 0 where
  pub length : m.blocks ≡ f.blocks
  pub place : (b : ℕ) → map_place m b ≡ image_place ranges f b

-- there is a map exactly where there is a file, and it is that of the file
abbrev pub MapsImage : List MapRange → Option ImageMap → Option ImageFile → Type 0
MapsImage ranges None None = Unit {0}
MapsImage ranges None (Some f) = ⊥
MapsImage ranges (Some m) None = ⊥
MapsImage ranges (Some m) (Some f) = IsMapOf ranges m f
