-- Counts by what was gathered of files.
use Rattle.std.specs.Prelude.{◌≡◌, ℕ, ◌-◌, List, length, sum_by}
use Rattle.indexmap.specs.IndexMap.{keys}
use Rattle.reiser_bitmap.specs.Runs.{free_runs}
use Rattle.reiser_volume.specs.declared.volume.Volume.{Volume}
use Rattle.reiser_volume.specs.Opened.{links_in}
use Rattle.unit_plan.specs.declared.counts.Counts.{Counts}
use Rattle.unit_plan.specs.declared.piece.Piece.{Piece}
use Rattle.extent_pieces.specs.declared.parts.FileParts.{FileParts}
use Rattle.extent_pieces.specs.Parts.{capped}

-- the counts of a volume of which these are the pieces, so many of them kept
pub record TellsCounts (volume : Volume) (parts : FileParts) (items : List Piece) (kept : ℕ) (c : Counts) : Type 0 where
  pub blocks : c.blocks ≡ length volume.bitmap
  pub runs : c.runs ≡ length (free_runs volume.bitmap)
  pub pieces : c.pieces ≡ length items
  pub piece_blocks : c.piece_blocks ≡ capped (sum_by (λ p. p.count) items)
  pub copies : c.copies ≡ length items - kept - length parts.tails.items
  pub tails : c.tails ≡ length parts.tails.items
  pub objects : c.objects ≡ length (keys volume.named)
  pub names : c.names ≡ length (links_in volume)
  pub letters : c.letters ≡ capped (sum_by (λ n. length n.name) (links_in volume))
  pub inlines : c.inlines ≡ parts.inlines
  pub inline_bytes : c.inline_bytes ≡ parts.inline_bytes
