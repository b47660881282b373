-- Elements of a list that have a mark.
use Rattle.std.specs.Prelude.{◌≡◌, ◌++◌, Bool, true, false, List, [], ◌∷◌, filter, if◌then◌else◌}
use Rattle.std.specs.List.Sorted.{IsPermutation}

-- the elements whose mark is set
abbrev pub chosen : {A : Type 0} → List Bool → List A → List A
chosen [] xs = []
chosen (m ∷ marks) [] = []
chosen (m ∷ marks) (x ∷ xs) = if m then x ∷ chosen marks xs else chosen marks xs

-- No list that begins so is all of these in another order, not even of those alone that pass a test with x.
abbrev pub IsTooMany : {A : Type 0} → List A → List A → A → Type 0
IsTooMany {A} all met x = (p : A → Bool) → p x ≡ true → (more : List A) → ¬ IsPermutation (filter p all) (filter p (met ++ x ∷ more))

-- One more of these was met; or there is none like it that was not met before.
abbrev pub Notes : {A : Type 0} → List A → List A → List A → A → Bool → Type 0
Notes all marked met x true = IsPermutation marked (met ++ x ∷ [])
Notes all marked met x false = IsTooMany all met x
