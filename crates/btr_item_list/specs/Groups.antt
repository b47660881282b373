-- Elements of a list by a number.
use Rattle.std.specs.Prelude.{◌≡◌, ◌<◌, ℕ, ◌==◌, nat_lt, List, [], ◌∷◌, filter, if◌then◌else◌, length, All, AllPairs}
use Rattle.std.specs.List.{flat_map}

-- one element more, before those of its number
abbrev pub in_group : {A : Type 0} → ℕ → A → List (ℕ × List A) → List (ℕ × List A)
in_group n x [] = (n, x ∷ []) ∷ []
in_group n x (g ∷ groups) =
    if n == g.0 then (n, x ∷ g.1) ∷ groups else (if nat_lt n g.0 then (n, x ∷ []) ∷ (g ∷ groups) else g ∷ in_group n x groups)

-- The elements in groups of one number. The groups ascend, and each has its elements in the order of the list.
abbrev pub grouped : {A : Type 0} → (A → ℕ) → List A → List (ℕ × List A)
grouped number [] = []
grouped number (x ∷ xs) = in_group (number x) x (grouped number xs)

-- the elements by their numbers; those of one number keep their order
abbrev pub ascending : {A : Type 0} → (A → ℕ) → List A → List A
ascending number xs = flat_map (λ g. g.1) (grouped number xs)

-- the elements of a number in groups
abbrev pub of_number : {A : Type 0} → ℕ → List (ℕ × List A) → List A
of_number n [] = []
of_number n (g ∷ groups) = if n == g.0 then g.1 else of_number n groups

-- What groups are: they ascend, the elements of each number are those of the list in its order, and no group is empty.
pub record AreGroups {A : Type 0} (number : A → ℕ) (xs : List A) (groups : List (ℕ × List A)) : Type 0 where
  pub ascend : AllPairs (λ g h. g.0 < h.0) groups
  pub each : (n : ℕ) → of_number n groups ≡ filter (λ x. number x == n) xs
  pub some : All (λ g. 0 < length g.1) groups
