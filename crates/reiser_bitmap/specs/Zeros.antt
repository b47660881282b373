-- Bytes that are zero, and bits.
use Rattle.std.specs.Prelude.{◌≡◌, ℕ, ◌+◌, ◌<◌, false, List, slice_index}
use Rattle.reiser_bitmap.specs.Bits.{bit_of}

-- the n bytes from a place on
abbrev pub AreZeros : List ℕ → ℕ → ℕ → Type 0
AreZeros bytes at n = (i : ℕ) → i < n → slice_index bytes (at + i) ≡ 0

-- the n bits from a place on
abbrev pub HasNoBits : List ℕ → ℕ → ℕ → Type 0
HasNoBits bytes at n = (i : ℕ) → i < n → bit_of bytes (at + i) ≡ false
