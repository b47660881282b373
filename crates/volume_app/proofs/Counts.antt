-- A number with another count of words behind it than one is no trial.
use Rattle.volume_app.proofs.Imports.{◌≡◌, ℕ, ◌<◌, List, [], length, map, refl, arith, numbered}
use Rattle.std.proofs.Common.{◌∷◌}
use Rattle.std.specs.Prelude.{None}

pub too_few : {A : Type 0} (bytes : A → List ℕ) (number : List ℕ) (words : List A) → length words < 1 → None ≡ numbered number (map bytes words)
too_few bytes number [] few = refl
too_few bytes number (path ∷ rest) few = absurd (omega (arith, few))

pub too_many : {A : Type 0} (bytes : A → List ℕ) (number : List ℕ) (words : List A) → 1 < length words → None ≡ numbered number (map bytes words)
too_many bytes number [] many = absurd (omega (arith, many))
too_many bytes number (path ∷ []) many = absurd (omega (arith, many))
too_many bytes number (path ∷ more ∷ rest) many = refl
