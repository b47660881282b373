-- One more item of a walk.
use Rattle.btr_reader_names.proofs.Imports.{◌≡◌, ℕ, ◌==◌, nat_eq, Bool, true, false, ◌&&◌, ◌||◌, List, [], ◌∷◌, ◌++◌, refl, sym, ◌∙◌, ap, list_any-append, ROOT_ITEM, TreeItem}
use Rattle.btr_reader_names.specs.Roots.{is_root_of, has_root}

pub or_none : (b : Bool) → (b || false) ≡ b
or_none true = refl
or_none false = refl

pub root_push : (number : ℕ) (had : Bool) (given : List TreeItem) (i : TreeItem) → had ≡ has_root given number → (had || is_root_of number i) ≡ has_root (given ++ i ∷ []) number
root_push number had given i is =
    ap (λ (b : Bool). b || is_root_of number i) is
    ∙ (ap (λ (b : Bool). has_root given number || b) (sym (or_none (is_root_of number i))) ∙ sym (list_any-append (is_root_of number) given (i ∷ [])))

-- an item that is no root item, and one that is
pub root_other : (number : ℕ) (had : Bool) (i : TreeItem) → (i.key.kind == ROOT_ITEM) ≡ false → had ≡ (had || is_root_of number i)
root_other number had i other = sym (ap (λ (b : Bool). had || ((i.key.objectid == number) && b)) other ∙ by had (i.key.objectid == number))
  where
    by : (a b : Bool) → (a || (b && false)) ≡ a
    by true b = refl
    by false true = refl
    by false false = refl

pub root_own : (number : ℕ) (had now : Bool) (i : TreeItem) → (i.key.kind == ROOT_ITEM) ≡ true → now ≡ (nat_eq i.key.objectid number || had) → now ≡ (had || is_root_of number i)
root_own number had now i own is = is ∙ (by had (nat_eq i.key.objectid number) ∙ sym (ap (λ (b : Bool). had || ((i.key.objectid == number) && b)) own))
  where
    by : (a b : Bool) → (b || a) ≡ (a || (b && true))
    by true true = refl
    by true false = refl
    by false true = refl
    by false false = refl
