-- Words of another count than three order nothing.
use Rattle.reiser_make_app.proofs.Imports.{◌≡◌, ℕ, ◌<◌, Bool, List, [], ◌∷◌, length, map, refl, arith, None, three_words}

pub too_few : {A : Type 0} (bytes : A → List ℕ) (old : Bool) (words : List A) → length words < 3 → None ≡ three_words old (map bytes words)
too_few bytes old [] few = refl
too_few bytes old (a ∷ []) few = refl
too_few bytes old (a ∷ b ∷ []) few = refl
too_few bytes old (a ∷ b ∷ c ∷ rest) few = absurd (omega (arith, few))

pub too_many : {A : Type 0} (bytes : A → List ℕ) (old : Bool) (words : List A) → 3 < length words → None ≡ three_words old (map bytes words)
too_many bytes old [] many = absurd (omega (arith, many))
too_many bytes old (a ∷ []) many = absurd (omega (arith, many))
too_many bytes old (a ∷ b ∷ []) many = absurd (omega (arith, many))
too_many bytes old (a ∷ b ∷ c ∷ []) many = absurd (omega (arith, many))
too_many bytes old (a ∷ b ∷ c ∷ d ∷ rest) many = refl
