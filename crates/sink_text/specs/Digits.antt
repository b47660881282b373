-- Digits: four octal ones, pairs of hexadecimal ones, and the fraction of a second.
use Rattle.std.specs.Prelude.{ℕ, ◌+◌, ◌-◌, ◌/◌, ◌%◌, List, [], ◌∷◌, ◌++◌, length, replicate, decimal, nat_eq, if◌then◌else◌}
use Rattle.std.specs.List.{flat_map}
use Rattle.sink_text.specs.Escape.{hex_digit}

-- the low twelve bits in four octal digits
abbrev pub octal_four : ℕ → List ℕ
octal_four n = (48 + n / 512 % 8) ∷ (48 + n / 64 % 8) ∷ (48 + n / 8 % 8) ∷ (48 + n % 8) ∷ []

-- a byte in two digits of sixteen, in lower case
abbrev pub hex_pair : ℕ → List ℕ
hex_pair c = hex_digit (c / 16) ∷ hex_digit (c % 16) ∷ []

abbrev pub hex_text : List ℕ → List ℕ
hex_text bytes = flat_map hex_pair bytes

-- a point and at least nine digits, with leading zeros
abbrev pub point_and_nine : ℕ → List ℕ
point_and_nine n = 46 ∷ (replicate (9 - length (decimal n)) 48 ++ decimal n)

-- nanoseconds behind whole seconds: nothing for none
abbrev pub fraction : ℕ → List ℕ
fraction n = if nat_eq n 0 then [] else point_and_nine n
