-- Small facts on options.
use Rattle.convert_core_laws.proofs.Imports.{◌≡◌, Bool, true, false, Some, None, Option, refl, if◌then◌else◌}

pub some_is : {X : Type 0} (x y : X) → (Some x ≡ Some y) → x ≡ y
some_is x y h = cc h

pub no_some : {X : Type 0} (x : X) → (None ≡ Some x) → ⊥
no_some x h = cc h

-- what is given where a test holds
pub when_true : {X : Type 0} (t : Bool) (o : Option X) (x : X) → (if t then o else None) ≡ Some x → (t ≡ true) × (o ≡ Some x)
when_true true o x h = (refl, h)
when_true false o x h = absurd (no_some x h)
