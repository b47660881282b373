-- Where elements stand that pass a test.
use Rattle.std.specs.Prelude.{ℕ, ◌+◌, Bool, List, [], ◌∷◌, if◌then◌else◌}

-- the places, counted from n, of the elements that pass
abbrev pub places_from : {A : Type 0} → (A → Bool) → ℕ → List A → List ℕ
places_from p n [] = []
places_from p n (x ∷ xs) = if p x then n ∷ places_from p (n + 1) xs else places_from p (n + 1) xs
