-- What a marker and a mapper of a file hold.
use Rattle.std.specs.Prelude.{◌≡◌, ◌≤◌, ℕ, ◌+◌, ◌*◌, List, map, All, Option, None}
use Rattle.reiser_walk.specs.outside.History.{Image}
use Rattle.fs_rows.specs.Held.{HoldsBytes}
use Rattle.reiser_walk.specs.Items.{ReiserItem}
use Rattle.reiser_volume_files.specs.declared.map.RunFrom.{RunFrom}
use Rattle.reiser_volume_files.specs.declared.marker.FileMarker.{FileMarker}
use Rattle.reiser_volume_files.specs.declared.mapper.FileMapper.{FileMapper}
use Rattle.reiser_volume_files.specs.Bytes.{content, EndsBy}
use Rattle.reiser_volume_files.specs.Runs.{runs_of, block_from}

-- a marker that was given these items
pub record MarksFile (m : FileMarker) (image : Image) (given : List ReiserItem) : Type 0 where
  pub bytes : HoldsBytes m.file (content image given m.file.size)
  -- the block in hand begins at or before the end of what was given
  pub reached : (b : ℕ) → All (EndsBy b) given → 4096 * m.file.next ≤ b

-- The runs of the file blocks of a function below the one in hand, that one, and nothing behind it.
pub record HoldsRuns (m : FileMapper) (f : ℕ → Option RunFrom) : Type 0 where
  pub done : m.map ≡ runs_of f m.next
  pub in_hand : m.from ≡ f m.next
  pub rest : (k : ℕ) → m.next + 1 ≤ k → f k ≡ None

-- a mapper that was given these items
pub record MapsFile (m : FileMapper) (given : List ReiserItem) : Type 0 where
  pub runs : HoldsRuns m (block_from given m.size)
  pub reached : (b : ℕ) → All (EndsBy b) given → 4096 * m.next ≤ b
