-- Bits of bytes, the low bit first.
use Rattle.std.specs.Prelude.{ℕ, ◌*◌, ◌/◌, ◌%◌, ◌==◌, Bool, false, List, slice_index, slice_index_or, map, filter, length}
use Rattle.std.specs.Int.{bit_at}
use Rattle.std.specs.List.{range_with_len}

-- bit b is 1
abbrev pub bit_of : List ℕ → ℕ → Bool
bit_of bytes b = bit_at (slice_index bytes (b / 8)) (b % 8) == 1

-- the first n bits
abbrev pub bits : ℕ → List ℕ → List Bool
bits n bytes = map (bit_of bytes) (range_with_len 0 n)

-- whether a set has a block: past the end it has none
abbrev pub has : List Bool → ℕ → Bool
has set b = slice_index_or set b false

-- the blocks of a set, ascending
unfoldable pub used_blocks : List Bool → List ℕ
used_blocks set = filter (has set) (range_with_len 0 (length set))

-- how many bits of the bytes are 1
unfoldable pub bit_count : List ℕ → ℕ
bit_count bytes = length (filter (bit_of bytes) (range_with_len 0 (8 * length bytes)))
