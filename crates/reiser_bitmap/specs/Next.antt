-- The first block behind a run of blocks that are in a set, or are not.
use Rattle.std.specs.Prelude.{ℕ, ◌+◌, ◌-◌, ◌==◌, Bool, true, false, not, List, length, take_while}
use Rattle.std.specs.List.{range_with_len}
use Rattle.reiser_bitmap.specs.Bits.{bit_of, has}

-- the first number from a first one on that does not pass; an end where there is none before it
unfoldable pub end_of_run : (ℕ → Bool) → ℕ → ℕ → ℕ
end_of_run passes from end = from + length (take_while passes (range_with_len from (end - from)))

abbrev pub next_unused : List Bool → ℕ → ℕ → ℕ
next_unused set from end = end_of_run (has set) from end

abbrev pub next_used : List Bool → ℕ → ℕ → ℕ
next_used set from end = end_of_run (λ b. not (has set b)) from end

-- the bit is 1, or is 0
abbrev pub is_bit : List ℕ → Bool → ℕ → Bool
is_bit bytes true b = bit_of bytes b
is_bit bytes false b = not (bit_of bytes b)

-- the first bit that is another one
abbrev pub end_of_bits : List ℕ → Bool → ℕ → ℕ → ℕ
end_of_bits bytes bit from end = end_of_run (is_bit bytes bit) from end
