-- The map of addresses that the chunks of a conversion give.
use Rattle.std.specs.Prelude.{◌≡◌, ◌*◌, List, Contains, None}
use Rattle.reiser_volume.specs.outside.History.{Image}
use Rattle.btr_reader.specs.btr_reader_walk.declared.map.MapRange.{MapRange}
use Rattle.convert_core.specs.convert_steps.Making.{IsMaking, Making}
use Rattle.convert_core.specs.unit_plan.declared.chunk.PlannedChunk.{PlannedChunk}
use Rattle.convert_core_laws.specs.Kept.{MapsPieces}

-- a chunk gives each of its addresses itself
abbrev pub identity_range : PlannedChunk → MapRange
identity_range c = record { logical = 4096 * c.start; length = 4096 * c.length; physical = 4096 * c.start; mirror = None }

-- The ranges of some chunks, in any order, each at least once.
pub record AreRangesOf (chunks : List PlannedChunk) (ranges : List MapRange) : Type 0 where
  pub each : (r : MapRange) → Contains ranges r → (c : PlannedChunk) × Contains chunks c × (r ≡ identity_range c)
  pub whole : (c : PlannedChunk) → Contains chunks c → Contains ranges (identity_range c)

-- The chunks of a conversion map each address of a piece, to its place.
abbrev pub ChunksMapPieces : Type 0
ChunksMapPieces = (image : Image) (m : Making) (ranges : List MapRange) → IsMaking image m → AreRangesOf m.chunks ranges → MapsPieces m.pieces ranges
