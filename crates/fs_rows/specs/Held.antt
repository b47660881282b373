-- What is held of a file whose bytes are put in order.
use Rattle.std.specs.Prelude.{◌≡◌, ◌≤◌, ℕ, ◌+◌, ◌*◌, List, map}
use Rattle.std.specs.List.{range_with_len}
use Rattle.fs_rows.specs.Bytes.{block_by}
use Rattle.fs_rows.specs.Marker.{Marks}
use Rattle.fs_rows.specs.declared.file.FileBytes.{FileBytes}

-- the first n file blocks of a function, each with its index
unfoldable pub blocks_by : (ℕ → ℕ) → ℕ → List (ℕ × List ℕ)
blocks_by f n = map (λ k. (k, block_by f k)) (range_with_len 0 n)

-- The file blocks of a function below the one in hand were added, that one is in hand, and behind it all is 0.
pub record HoldsBytes (m : FileBytes) (f : ℕ → ℕ) : Type 0 where
  pub done : Marks m.marker (blocks_by f m.next)
  pub in_hand : m.block.bytes ≡ block_by f m.next
  pub rest : (n : ℕ) → 4096 * m.next + 4096 ≤ n → f n ≡ 0
