-- The items of a list, counted one after the other.
use Rattle.convert_trees.proofs.Imports.{◌≡◌, ◌∙◌, ℕ, ◌+◌, ◌*◌, ◌^◌, ◌<◌, ◌≤◌, inl, inr, List, [], ◌∷◌, ◌++◌, length, take, get_or, sym, ap, subst, arith, map-append, take_more, Item, IsNodeSize, lengths_of}

pub small_size : (n : ℕ) → IsNodeSize n → n ≤ 65536
small_size n (inl is) = omega (arith, is)
small_size n (inr (inl is)) = omega (arith, is)
small_size n (inr (inr (inl is))) = omega (arith, is)
small_size n (inr (inr (inr (inl is)))) = omega (arith, is)
small_size n (inr (inr (inr (inr is)))) = omega (arith, is)

pub sized : (n k : ℕ) → IsNodeSize n → k < 2 ^ 43 → n * k < 2 ^ 64
sized n k (inl is) few = subst (λ (m : ℕ). m * k < 2 ^ 64) (sym is) (omega (arith, few))
sized n k (inr (inl is)) few = subst (λ (m : ℕ). m * k < 2 ^ 64) (sym is) (omega (arith, few))
sized n k (inr (inr (inl is))) few = subst (λ (m : ℕ). m * k < 2 ^ 64) (sym is) (omega (arith, few))
sized n k (inr (inr (inr (inl is)))) few = subst (λ (m : ℕ). m * k < 2 ^ 64) (sym is) (omega (arith, few))
sized n k (inr (inr (inr (inr is)))) few = subst (λ (m : ℕ). m * k < 2 ^ 64) (sym is) (omega (arith, few))

pub lengths_more : (list : List Item) (i : ℕ) (none : Item) (body : List ℕ) → i < length list → length body ≡ length (get_or list i none).1
    → lengths_of (take i list) ++ length body ∷ [] ≡ lengths_of (take (i + 1) list)
lengths_more list i none body inside same =
    ap (λ (n : ℕ). lengths_of (take i list) ++ n ∷ []) same
    ∙ sym (ap lengths_of (take_more list i none inside) ∙ map-append (λ (item : Item). length item.1) (take i list) (get_or list i none ∷ []))
