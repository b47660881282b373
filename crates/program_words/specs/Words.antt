-- What a word of a command line is.
use Rattle.std.specs.Prelude.{ℕ, Bool, true, false, not, ◌&&◌, List, [], ◌∷◌, nat_eq, nat_le, Option, Some, None, if◌then◌else◌}
use Rattle.std.specs.Char.{is_ascii_digit}
use Rattle.std.specs.Str.Parse.{digits_value}

-- nonempty, and not beginning with a dash
abbrev pub is_path : List ℕ → Bool
is_path [] = false
is_path (c ∷ cs) = not (nat_eq c 45)

abbrev pub all_digits : List ℕ → Bool
all_digits [] = true
all_digits (c ∷ cs) = is_ascii_digit c && all_digits cs

-- one digit or more, and nothing else
abbrev pub is_numeral : List ℕ → Bool
is_numeral [] = false
is_numeral (c ∷ cs) = all_digits (c ∷ cs)

abbrev pub at_most : ℕ → ℕ → Option ℕ
at_most most n = if nat_le n most then Some n else None

-- the number that a word writes in decimal, where it is at most `most`
abbrev pub number_of : ℕ → List ℕ → Option ℕ
number_of most word = if is_numeral word then at_most most (digits_value 10 word) else None

-- a plus stands first
abbrev pub begins_with_plus : List ℕ → Bool
begins_with_plus [] = false
begins_with_plus (c ∷ cs) = nat_eq c 43

-- more digits behind a zero
abbrev pub has_leading_zero : List ℕ → Bool
has_leading_zero [] = false
has_leading_zero (c ∷ []) = false
has_leading_zero (c ∷ d ∷ ds) = nat_eq c 48

-- the number that a word writes in decimal without leading zeros, where it is at most `most`
abbrev pub plain_number : ℕ → List ℕ → Option ℕ
plain_number most word = if has_leading_zero word then None else number_of most word
