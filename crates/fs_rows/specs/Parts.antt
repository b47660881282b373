-- A path whose names stand in parts of 64.
use Rattle.std.specs.Prelude.{◌≡◌, ◌<◌, ◌≤◌, ◌^◌, ℕ, List, ◌++◌, length}
use Rattle.std.specs.List.{All, flat_map}

-- the names of the parts, one part behind the other
abbrev pub names_in : List (List (List ℕ)) → List (List ℕ)
names_in parts = flat_map (λ part. part) parts

-- all names
abbrev pub joined_parts : List (List (List ℕ)) → List (List ℕ) → List (List ℕ)
joined_parts parts rest = names_in parts ++ rest

-- each part is whole, and what is left makes no part
pub record IsCut (parts : List (List (List ℕ))) (rest : List (List ℕ)) : Type 0 where
  pub whole : All (λ part. length part ≡ 64) parts
  pub bounded : length parts ≤ 2 ^ 32
  pub short : length rest < 64
