-- The bytes of a file as a function from the number of a byte.
use Rattle.std.specs.Prelude.{ℕ, ◌+◌, ◌*◌, nat_lt, List, map, if◌then◌else◌}
use Rattle.std.specs.List.{range_with_len}

-- n bytes of a function, from byte `at` on
unfoldable pub bytes_by : ℕ → (ℕ → ℕ) → ℕ → List ℕ
bytes_by n f at = map (λ j. f (at + j)) (range_with_len 0 n)

-- file block k of a function, which is bytes 4096·k to 4096·k + 4095
abbrev pub block_by : (ℕ → ℕ) → ℕ → List ℕ
block_by f k = bytes_by 4096 f (4096 * k)

-- a function up to a size, and 0 from there on
abbrev pub up_to : (ℕ → ℕ) → ℕ → ℕ → ℕ
up_to f size n = if nat_lt n size then f n else 0
