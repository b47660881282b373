-- How a byte of a name is printed: as itself where it is a printable ASCII character other than the space and the
-- backslash, else as a backslash, an x and two lower-case hexadecimal digits.
use Rattle.std.specs.Prelude.{ℕ, ◌/◌, ◌%◌, ◌+◌, Bool, ◌&&◌, not, List, [], ◌∷◌, nat_le, nat_lt, nat_eq, if◌then◌else◌}
use Rattle.std.specs.List.{flat_map}

-- a digit of sixteen, in lower case
abbrev pub hex_digit : ℕ → ℕ
hex_digit d = if nat_lt d 10 then 48 + d else 87 + d

abbrev pub is_plain : ℕ → Bool
is_plain c = (nat_le 33 c && nat_le c 126) && not (nat_eq c 92)

abbrev pub escape : ℕ → List ℕ
escape c = if is_plain c then c ∷ [] else (92 ∷ 120 ∷ hex_digit (c / 16) ∷ hex_digit (c % 16) ∷ [])

abbrev pub escaped : List ℕ → List ℕ
escaped bytes = flat_map escape bytes
