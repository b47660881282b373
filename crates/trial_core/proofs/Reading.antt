-- What an element that was read is.
use Rattle.trial_core.proofs.Imports.{◌≡◌, ℕ, zero, suc, List, [], ◌∷◌, get_or, Some, slice_get}

pub got : {X : Type 0} (xs : List X) (i : ℕ) (x d : X) → slice_get xs i ≡ Some x → get_or xs i d ≡ x
got [] i x d is = absurd (cc is)
got (y ∷ ys) zero x d is = cc is
got (y ∷ ys) (suc i) x d is = got ys i x d is
