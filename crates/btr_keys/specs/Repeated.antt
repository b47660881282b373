-- Bodies of records one after the other, where each record says itself how long it is.
use Rattle.std.specs.Prelude.{◌≡◌, ℕ, zero, suc, ◌+◌, List, [], ◌∷◌, length, map, drop, Option, Some, None, nat_lt, if◌then◌else◌}
use Rattle.std.specs.Option.{option_map, option_and_then}
use Rattle.std.specs.List.{flat_map, AllByRecursion}
use Rattle.vol_block.specs.Volume.{field}

-- The bytes behind the record that bytes begin with, if it is whole: a head of so many bytes, in it at a place the
-- name's length in two bytes, and the name.
unfoldable pub behind_named : ℕ → ℕ → List ℕ → Option (List ℕ)
behind_named head at bytes =
    if nat_lt (length bytes) head then None
    else (if nat_lt (length bytes) (head + field 2 bytes at) then None else Some (drop (head + field 2 bytes at) bytes))

-- the bytes from the begin of each record on, if the bytes are whole records, of which there are at most n
unfoldable pub starts_within : (List ℕ → Option (List ℕ)) → ℕ → List ℕ → Option (List (List ℕ))
starts_within behind n [] = Some []
starts_within behind zero (b ∷ bs) = None
starts_within behind (suc n) (b ∷ bs) = option_and_then (λ rest. option_map (λ starts. (b ∷ bs) ∷ starts) (starts_within behind n rest)) (behind (b ∷ bs))

-- the same of bytes that are any number of records
abbrev pub starts : (List ℕ → Option (List ℕ)) → List ℕ → Option (List (List ℕ))
starts behind bytes = starts_within behind (length bytes) bytes

-- the records that bytes are, by what the first one is and what is behind it
abbrev pub records : {R : Type 0} → (List ℕ → Option (List ℕ)) → (List ℕ → R) → List ℕ → Option (List R)
records behind front bytes = option_map (map front) (starts behind bytes)

-- no list where it is empty
abbrev pub at_least_one : {A : Type 0} → Option (List A) → Option (List A)
at_least_one None = None
at_least_one (Some []) = None
at_least_one (Some (x ∷ xs)) = Some (x ∷ xs)

-- some records that fit, written one after the other, read as these
abbrev pub RecordsReadBack : {R : Type 0} → (List ℕ → Option (List R)) → (R → List ℕ) → (R → Type 0) → Type 0
RecordsReadBack {R} read spell fits = (first : R) (others : List R) → AllByRecursion fits (first ∷ others) → read (flat_map spell (first ∷ others)) ≡ Some (first ∷ others)
